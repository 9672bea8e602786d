-- STROBE v1.0.2 over a sponge: opening an operation (`_begin_op`), one call with its refusals (`operate`), a fresh session. docs/RULES.md, sections 2
-- and 5 to 7.
use Rattle.std.specs.Prelude.{Bool, true, false, not, cond, ◌&&◌, List, [], ◌∷◌, ℕ, zero, suc, ◌+◌, ◌-◌, ◌%◌, eqb, leb, ltb, length, replicate}
use Rattle.strobe.specs.Answer.{done, key_flag, no_operation, not_the_last, cut_mac, too_long, not_a_session, mac_unequal}
use Rattle.strobe.specs.Duplex.{Sponge, Duplex, close, after, out, met, same}
use Rattle.strobe.specs.Flags.{I, C, T, K, META_AD, has, operation, known, is_recv_mac, over_limit, absorbing, rule_of}
use Rattle.strobe.specs.declared.flags.Flags.{Flags}
use Rattle.strobe.specs.declared.flags.Operation.{Operation}
use Rattle.strobe.specs.declared.direction.Direction.{Direction}
use Rattle.strobe.specs.declared.direction.Direction.TheVariants.{Neither, Sender, Receiver}
use Rattle.strobe.specs.declared.last.Last.{Last}
use Rattle.strobe.specs.declared.last.Last.TheVariants.{Nothing, Op}

-- a session, whatever its level and width
pub record Strobe : Type 0 where
  pub duplex : Duplex
  pub direction : Direction
  pub last : Last

-- ---- section 5: opening an operation

-- the first operation with T sets the direction
abbrev pub directed : Direction → Flags → Direction
directed Neither f = cond (has f T) (cond (has f I) Receiver Sender) Neither
directed Sender f = Sender
directed Receiver f = Receiver

-- 1 exactly when I, set or not, disagrees with the direction; T has set a direction before this is asked
abbrev pub disagrees : Direction → Bool → ℕ
disagrees Neither i = cond i 1 0
disagrees Sender i = cond i 1 0
disagrees Receiver i = cond i 0 1

-- the flags that are mixed in: with T, bit I tells whether I disagrees
unfoldable pub mixed : Direction → Flags → ℕ
mixed dir f = cond (has f T) (f.0 - f.0 % 2 + disagrees dir (has f I)) f.0

module _ (sp : Sponge) where
  -- C closes a block that is begun
  unfoldable pub forced : Flags → Duplex → Duplex
  forced f d = cond (has f C && not (eqb d.pos 0)) (close sp d) d

  -- the old begin position and the flags are absorbed behind a new begin position
  unfoldable pub begin_op : Direction → Flags → Duplex → Duplex
  begin_op dir f d =
      forced f
      (after sp absorbing (record { st = d.st; pos = d.pos; begin = d.pos + 1 }) (d.begin ∷ mixed dir f ∷ []))

  -- with `more` on there is no opening; the last operation keeps the flags as called, not as mixed
  unfoldable pub opened : Strobe → Flags → Bool → Strobe
  opened s f true = s
  opened s f false =
      let dir = directed s.direction f in
      record { duplex = begin_op dir f s.duplex; direction = dir; last = Op f }

-- ---- sections 2 and 7: the refusals

-- the last operation is none or one of the twenty
abbrev pub known_last : Last → Bool
known_last Nothing = true
known_last (Op f) = known (operation f)

abbrev pub is_last : Last → Flags → Bool
is_last Nothing f = false
is_last (Op g) f = eqb g.0 f.0

unfoldable pub well_formed : ℕ → Strobe → Bool
well_formed rate s =
    ltb s.duplex.pos rate && (leb s.duplex.begin s.duplex.pos && known_last s.last)

-- a call with flags f and n bytes: the first test that fails, in the order 8, 1, 2, 4, 3, 5; 0 if none does
unfoldable pub refusal : ℕ → Strobe → Flags → Bool → ℕ → ℕ
refusal rate s f more n =
    cond (not (well_formed rate s)) not_a_session
    (cond (has f K) key_flag
    (cond (not (known (operation f))) no_operation
    (cond (more && is_recv_mac (operation f)) cut_mac
    (cond (more && not (is_last s.last f)) not_the_last
    (cond (over_limit (operation f) n) too_long
    done)))))

-- ---- section 7: one call

-- what comes of a call: the answer, the session, the lent bytes
pub record Effect : Type 0 where
  pub answer : ℕ
  pub strobe : Strobe
  pub lent : List ℕ

module _ (sp : Sponge) where
  -- a received MAC is accepted when every old state byte equals its byte
  unfoldable pub verdict : Operation → Duplex → List ℕ → ℕ
  verdict o d bs = cond (is_recv_mac o && not (same (met sp (rule_of o) d bs) bs)) mac_unequal done

  -- the bytes go through a session that is opened
  unfoldable pub worked : Strobe → Operation → List ℕ → Effect
  worked s o bs =
      record {
        answer = verdict o s.duplex bs;
        strobe = record { duplex = after sp (rule_of o) s.duplex bs; direction = s.direction; last = s.last };
        lent = out sp (rule_of o) s.duplex bs;
      }

  -- a refusal changes nothing
  unfoldable pub settled : ℕ → Strobe → Flags → Bool → List ℕ → Effect
  settled zero s f more bs = worked (opened sp s f more) (operation f) bs
  settled (suc n) s f more bs = record { answer = suc n; strobe = s; lent = bs }

  -- the call by number: flag byte, `more`, lent bytes
  unfoldable pub call : Strobe → Flags → Bool → List ℕ → Effect
  call s f more bs = settled (refusal sp.rate s f more (length bs)) s f more bs

  -- ---- section 6: a fresh session

  -- 01, R+2, 01, 00, 01, 60, the text STROBEv1.0.2, and zeros
  unfoldable pub seed : List ℕ
  seed =
      0x01 ∷ (sp.rate + 2) ∷ 0x01 ∷ 0x00 ∷ 0x01 ∷ 0x60
      ∷ 0x53 ∷ 0x54 ∷ 0x52 ∷ 0x4f ∷ 0x42 ∷ 0x45 ∷ 0x76 ∷ 0x31 ∷ 0x2e ∷ 0x30 ∷ 0x2e ∷ 0x32
      ∷ replicate (sp.size - 18) 0

  -- permuted plainly, with no padding
  unfoldable pub unnamed : Strobe
  unnamed = record { duplex = record { st = sp.perm seed; pos = 0; begin = 0 }; direction = Neither; last = Nothing }

  -- meta-ad of the protocol name
  unfoldable pub fresh : List ℕ → Strobe
  fresh name = (call unnamed META_AD false name).strobe
