-- Positions, refusals and the number of permutations depend on the lengths of the data alone, not on its bytes; so does the answer where no MAC is
-- received. Two sessions that differ only in state bytes stay so through any call with data of one length. Assumes nothing.
use Prim.Native.Nat.{ℕ, zero, suc, ◌+◌}
use mathlib.Core.Path.{◌≡◌, refl, sym, ap, ◌∙◌}
use mathlib.Core.List.{List, [], ◌∷◌}
use mathlib.Core.Bool.{Bool, true, false, not, cond, ◌&&◌}
use lib.Dec.{eqb}
use lib.ListN.{length, set, length-set}
use native.Mathlib.Omega.{arith}
use Rattle.strobe.specs.Counting.{counting}
use Rattle.strobe.specs.Duplex.{Sponge, Duplex, Rule, placed, mix, padded, close, close_if_full, step, after}
use Rattle.strobe.specs.Flags.{C, META_AD, has, operation, is_recv_mac, absorbing}
use Rattle.strobe.specs.Loops.{at}
use Rattle.strobe.specs.Strobe.{Strobe, mixed, directed, forced, begin_op, opened, well_formed, refusal, verdict, worked, settled, call, unnamed, fresh}
use Rattle.strobe.specs.declared.direction.Direction.{Direction}
use Rattle.strobe.specs.declared.flags.Flags.{Flags}

-- a number read off a state, which no stored byte changes, and which after a permutation follows from what it was before
pub record Weight (sp : Sponge) : Type 0 where
  pub of : List ℕ → ℕ
  pub stored : (st : List ℕ) (i x : ℕ) → of (set st i x) ≡ of st
  pub permuted : (st st' : List ℕ) → of st ≡ of st' → of (sp.perm st) ≡ of (sp.perm st')

-- under any permutation there is this one, and where it adds a mark there is the number of marks
abbrev pub weightless : (sp : Sponge) → Weight sp
weightless sp = record { of = λ st. 0; stored = λ st i x. refl; permuted = λ st st' e. refl }

abbrev pub marks : (sp : Sponge) → Weight (counting sp)
marks sp = record { of = length; stored = length-set; permuted = λ st st' e. ap suc e }

-- two duplexes, and two sessions, that differ in state bytes only, and not in the weight of the state
pub record Alike {sp : Sponge} (w : Weight sp) (d e : Duplex) : Type 0 where
  pub pos : d.pos ≡ e.pos
  pub begin : d.begin ≡ e.begin
  pub weight : w.of d.st ≡ w.of e.st

pub record Matched {sp : Sponge} (w : Weight sp) (s t : Strobe) : Type 0 where
  pub duplex : Alike w s.duplex t.duplex
  pub direction : s.direction ≡ t.direction
  pub last : s.last ≡ t.last

module _ (sp : Sponge) (w : Weight sp) where
  -- ---- data

  padded_weight : (d : Duplex) → w.of (padded sp d) ≡ w.of d.st
  unfolding padded mix
  padded_weight d = w.stored _ _ _ ∙ w.stored _ _ _ ∙ w.stored _ _ _

  close_alike : (t u : Bool) → t ≡ u → (d e : Duplex) → Alike w d e → Alike w (cond t (close sp d) d) (cond u (close sp e) e)
  close_alike t u same d e h = rw same (go u)
    where
      go : (u : Bool) → Alike w (cond u (close sp d) d) (cond u (close sp e) e)
      go true = record { pos = refl; begin = refl; weight = w.permuted _ _ (padded_weight d ∙ h.weight ∙ sym (padded_weight e)) }
      go false = h

  step_alike : (r : Rule) (d e : Duplex) (b c : ℕ) → Alike w d e → Alike w (step sp r d b) (step sp r e c)
  unfolding step close_if_full
  step_alike r d e b c h =
      let next : d.pos + 1 ≡ e.pos + 1 = omega arith in
      close_alike _ _ (ap (λ (p : ℕ). eqb p sp.rate) next) (placed r d b) (placed r e c)
      (record { pos = next; begin = h.begin; weight = w.stored _ _ _ ∙ h.weight ∙ sym (w.stored _ _ _) })

  pub after_alike : (r : Rule) (d e : Duplex) (bs cs : List ℕ) → length bs ≡ length cs → Alike w d e → Alike w (after sp r d bs) (after sp r e cs)
  unfolding after
  after_alike r d e [] [] l h = h
  after_alike r d e [] (c ∷ cs) l h = absurd (omega arith)
  after_alike r d e (b ∷ bs) [] l h = absurd (omega arith)
  after_alike r d e (b ∷ bs) (c ∷ cs) l h = after_alike r (step sp r d b) (step sp r e c) bs cs (omega arith) (step_alike r d e b c h)

  -- ---- an opening

  begun_alike : (dir dir' : Direction) (f : Flags) (d e : Duplex) → Alike w d e → Alike w (begin_op sp dir f d) (begin_op sp dir' f e)
  unfolding begin_op forced
  begun_alike dir dir' f d e h =
      let two =
      after_alike absorbing (at d.st d.pos (d.pos + 1)) (at e.st e.pos (e.pos + 1))
      (d.begin ∷ mixed dir f ∷ []) (e.begin ∷ mixed dir' f ∷ []) refl
      (record { pos = h.pos; begin = omega arith; weight = h.weight }) in
      close_alike _ _ (ap (λ (p : ℕ). has f C && not (eqb p 0)) two.pos) _ _ two

  pub opened_matched : (s t : Strobe) (f : Flags) (more : Bool) → Matched w s t → Matched w (opened sp s f more) (opened sp t f more)
  unfolding opened
  opened_matched s t f true h = h
  opened_matched s t f false h =
      record {
        duplex = begun_alike _ _ f s.duplex t.duplex h.duplex;
        direction = ap (λ (dir : Direction). directed dir f) h.direction;
        last = refl;
      }

  -- ---- a call

  pub refusal-same : (s t : Strobe) (f : Flags) (more : Bool) (n : ℕ) → Matched w s t → refusal sp.rate s f more n ≡ refusal sp.rate t f more n
  unfolding refusal well_formed
  refusal-same s t f more n h = rw (h.duplex.pos, h.duplex.begin, h.last)

  module _ (s t : Strobe) (f : Flags) (more : Bool) (bs cs : List ℕ) (l : length bs ≡ length cs) (h : Matched w s t) where
    pub call_matched : Matched w (call sp s f more bs).strobe (call sp t f more cs).strobe
    unfolding call settled worked
    call_matched = rw (l, refusal-same s t f more (length cs) h) (go (refusal sp.rate t f more (length cs)))
      where
        go : (n : ℕ) → Matched w (settled sp n s f more bs).strobe (settled sp n t f more cs).strobe
        go zero =
            let o = opened_matched s t f more h in
            record { duplex = after_alike _ _ _ bs cs l o.duplex; direction = o.direction; last = o.last }
        go (suc n) = h

    pub call_answer_same : is_recv_mac (operation f) ≡ false → (call sp s f more bs).answer ≡ (call sp t f more cs).answer
    unfolding call settled worked verdict
    call_answer_same e = rw (l, refusal-same s t f more (length cs) h) (go (refusal sp.rate t f more (length cs)))
      where
        go : (n : ℕ) → (settled sp n s f more bs).answer ≡ (settled sp n t f more cs).answer
        go zero = rw e
        go (suc n) = refl

  -- ---- a fresh session

  pub unnamed_matched : Matched w (unnamed sp) (unnamed sp)
  unnamed_matched = record { duplex = record { pos = refl; begin = refl; weight = refl }; direction = refl; last = refl }

  pub fresh_matched : (name other : List ℕ) → length name ≡ length other → Matched w (fresh sp name) (fresh sp other)
  unfolding fresh
  fresh_matched name other l = call_matched (unnamed sp) (unnamed sp) META_AD false name other l unnamed_matched
