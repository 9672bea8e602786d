-- Replay's premises can be met: for every run whose sent MACs can be received there are calls of the other end that mirror it, and none of them is refused.
-- Ratchets and data may have any length. Assumes nothing.
use Prim.Native.Nat.{ℕ, ◌≤◌}
use mathlib.Core.Path.{◌≡◌, refl, sym, ap, ◌∙◌, subst}
use mathlib.Core.List.{List, [], ◌∷◌, ◌++◌, map, flatten, append_assoc, append-nil}
use mathlib.Core.Bool.{Bool, true, false, cond}
use lib.ListN.{length}
use borrow.Author.Tests.{le-ltb}
use Rattle.laws.proofs.Bools.{true_not_false}
use Rattle.strobe.proofs.Data.{out-length}
use Rattle.strobe.specs.Duplex.{Sponge}
use Rattle.strobe.specs.Every.{Every}
use Rattle.strobe.specs.Flags.{META_AD, operation, known, is_recv_mac, mac_limit, over_limit, rule_of}
use Rattle.strobe.specs.Strobe.{Strobe, opened, worked, unnamed, fresh}
use Rattle.strobe.specs.declared.flags.Operation.TheVariants.{Ad, Ratchet, Key, Prf, SendClr, RecvClr, SendMac, RecvMac, SendEnc, RecvEnc, Unknown}
use Rattle.strobe.specs.declared.flags.Operation.{Operation}
use Rattle.replay.specs.Cuts.{Cut, bytes_of, Cuts, answering, MacFits}
use Rattle.replay.specs.Each.{Each}
use Rattle.replay.specs.History.{Act, Entry, ends, log, struck, Joined, begun, carried_on, joined, naming, operations}
use Rattle.replay.specs.Mirror.{mirrored, Lends, Mirrors}
use Rattle.replay.specs.Reload.{Keeps}
use Rattle.replay.specs.Replay.{NoneRejected, NoneRefused, Replayed}
use Rattle.replay.specs.Usable.{Sound}
use Rattle.replay.specs.Whole.{OneOfTwenty, whole, Right, Course}
use Rattle.replay.proofs.Course.{course}
use Rattle.replay.proofs.Cuts.{any_cut}
use Rattle.replay.proofs.Replay.{replay}
use Rattle.replay.proofs.Turned.{other, turned_operation}

-- ---- a cut that the limits allow: a MAC whole, all else byte by byte

abbrev singly : List ℕ → List (List ℕ)
singly bs = map (λ (b : ℕ). b ∷ []) bs

singly_bytes : (bs : List ℕ) → flatten (singly bs) ≡ bs
unfolding flatten
singly_bytes [] = refl
singly_bytes (b ∷ bs) = ap (λ (xs : List ℕ). b ∷ xs) (singly_bytes bs)

singly_within : (p : Operation) → over_limit p 1 ≡ false → (bs : List ℕ) → Every (λ (x : List ℕ). over_limit p (length x) ≡ false) (singly bs)
singly_within p one [] = tt
singly_within p one (b ∷ bs) = (one, singly_within p one bs)

module _ (Edition : Type 0) where
  abbrev bytewise : List ℕ → Cut Edition
  bytewise bs = record { reloads = []; first = []; others = singly bs }

  abbrev uncut : List ℕ → Cut Edition
  uncut bs = record { reloads = []; first = bs; others = [] }

  -- by what the first end did
  abbrev cut_of : Operation → Joined → Cut Edition
  cut_of Ad a = bytewise a.bytes
  cut_of Key a = bytewise a.bytes
  cut_of Ratchet a = bytewise a.bytes
  cut_of Prf a = bytewise a.bytes
  cut_of SendClr a = bytewise a.lent
  cut_of SendEnc a = bytewise a.lent
  cut_of SendMac a = uncut a.lent
  cut_of RecvClr a = bytewise a.lent
  cut_of RecvEnc a = bytewise a.lent
  cut_of RecvMac a = bytewise a.bytes
  cut_of Unknown a = uncut []

  cut_lends : (o : Operation) (a : Joined) → known o ≡ true → Lends o a (bytes_of (cut_of o a))
  unfolding flatten
  cut_lends Ad a k = singly_bytes a.bytes
  cut_lends Key a k = singly_bytes a.bytes
  cut_lends Ratchet a k = ap length (singly_bytes a.bytes)
  cut_lends Prf a k = ap length (singly_bytes a.bytes)
  cut_lends SendClr a k = singly_bytes a.lent
  cut_lends SendEnc a k = singly_bytes a.lent
  cut_lends SendMac a k = append-nil a.lent
  cut_lends RecvClr a k = singly_bytes a.lent
  cut_lends RecvEnc a k = singly_bytes a.lent
  cut_lends RecvMac a k = ap length (singly_bytes a.bytes)
  cut_lends Unknown a k = true_not_false k refl

  cut_within : (o : Operation) (a : Joined) → (o ≡ SendMac → length a.lent ≤ mac_limit)
      → let k = cut_of o a in Every (λ (x : List ℕ). over_limit (other o) (length x) ≡ false) (k.first ∷ k.others)
  cut_within Ad a h = (refl, singly_within Ad refl a.bytes)
  cut_within Key a h = (refl, singly_within Key refl a.bytes)
  cut_within Ratchet a h = (refl, singly_within Ratchet refl a.bytes)
  cut_within Prf a h = (refl, singly_within Prf refl a.bytes)
  cut_within SendClr a h = (refl, singly_within RecvClr refl a.lent)
  cut_within SendEnc a h = (refl, singly_within RecvEnc refl a.lent)
  cut_within SendMac a h = (le-ltb mac_limit (length a.lent) (h refl), tt)
  cut_within RecvClr a h = (refl, singly_within SendClr refl a.lent)
  cut_within RecvEnc a h = (refl, singly_within SendEnc refl a.lent)
  cut_within RecvMac a h = (refl, singly_within SendMac refl a.bytes)
  cut_within Unknown a h = (refl, tt)

  cut_whole : (o : Operation) (a : Joined) → is_recv_mac (other o) ≡ true → (cut_of o a).others ≡ []
  cut_whole Ad a e = absurd (true_not_false e refl)
  cut_whole Key a e = absurd (true_not_false e refl)
  cut_whole Ratchet a e = absurd (true_not_false e refl)
  cut_whole Prf a e = absurd (true_not_false e refl)
  cut_whole SendClr a e = absurd (true_not_false e refl)
  cut_whole SendEnc a e = absurd (true_not_false e refl)
  cut_whole SendMac a e = refl
  cut_whole RecvClr a e = absurd (true_not_false e refl)
  cut_whole RecvEnc a e = absurd (true_not_false e refl)
  cut_whole RecvMac a e = absurd (true_not_false e refl)
  cut_whole Unknown a e = refl

  abbrev cutting : Joined → Cut Edition
  cutting a = cut_of (operation a.flags) a

  module _ (sp : Sponge) where
    cuts : (s : Strobe) (a : Joined) → Right sp s a → MacFits a → Cuts a (cutting a)
    unfolding worked
    cuts s a r h =
        let long : length a.lent ≡ length a.bytes =
        ap length r.lent ∙ out-length sp (rule_of (operation a.flags)) (opened sp s a.flags false).duplex a.bytes in
        let e : operation (mirrored a.flags) ≡ other (operation a.flags) = turned_operation a.flags r.one_of_twenty in
        record {
          lends = cut_lends (operation a.flags) a r.one_of_twenty;
          within = subst (λ (p : Operation). Every (λ (x : List ℕ). over_limit p (length x) ≡ false) ((cutting a).first ∷ (cutting a).others)) (sym e)
              (cut_within (operation a.flags) a (λ m. rw long (h m)));
          uncut = λ m. cut_whole (operation a.flags) a (rw e at m);
        }

    all_cuts : (os : List Joined) (s t : Strobe) → Course sp s os t → Every MacFits os
        → Every (λ (o : Joined). OneOfTwenty o.flags) os × Each Cuts os (map cutting os)
    all_cuts [] s t c h = (tt, tt)
    all_cuts (o ∷ os) s t c h =
        let rest = all_cuts os (whole sp s o).strobe t c.1 h.1 in
        ((c.0.one_of_twenty, rest.0), (cuts s o c.0 h.0, rest.1))

-- ---- the first operation begins with the name

one_piece : (bs : List ℕ) → bs ≡ flatten (bs ∷ [])
unfolding flatten
one_piece bs = sym (append-nil bs)

record Named (name : List ℕ) (os : List Joined) : Type 0 where
  first : Joined
  rest : List Joined
  tail : List ℕ
  is : os ≡ first ∷ rest
  flags : first.flags ≡ META_AD
  bytes : first.bytes ≡ name ++ tail

named : (name : List ℕ) (es : List Entry) (o : Joined) (x : List ℕ) → o.flags ≡ META_AD → o.bytes ≡ name ++ x → Named name (joined o es)
unfolding joined
named name [] o x f b = record { first = o; rest = []; tail = x; is = refl; flags = f; bytes = b }
named name (e ∷ es) o x f b = go e.call.more (named name es)
  where
    go : (t : Bool) → ((o : Joined) (x : List ℕ) → o.flags ≡ META_AD → o.bytes ≡ name ++ x → Named name (joined o es))
        → Named name (cond t (joined (carried_on o e) es) (o ∷ joined (begun e) es))
    go true ih = ih (carried_on o e) (x ++ e.call.bytes) f (ap (λ (z : List ℕ). z ++ e.call.bytes) b ∙ append_assoc name x e.call.bytes)
    go false ih = record { first = o; rest = joined (begun e) es; tail = x; is = refl; flags = f; bytes = b }

-- ---- a mirror exists

module _ {Edition : Type 0} (sp : Sponge) (sound : Sound sp) (reloaded : Edition → Strobe → Strobe) (keeps : (e : Edition) → Keeps sp (reloaded e)) where
  abbrev Mirrored : List ℕ → List Joined → Type 0
  Mirrored name os =
      (b : List (Act Edition)) × let fs = log sp reloaded (fresh sp name) b in NoneRefused fs × Each Mirrors os (operations name fs)

  from_course : (name : List ℕ) (os : List Joined) (t : Strobe) → Named name os → Course sp (unnamed sp) os t → Every MacFits os → Mirrored name os
  from_course name os t n =
      subst (λ (xs : List Joined). Course sp (unnamed sp) xs t → Every MacFits xs → Mirrored name xs) (sym n.is)
      (λ c h.
      let ks = map (cutting Edition) n.rest in
      let k = all_cuts Edition sp n.rest (whole sp (unnamed sp) n.first).strobe t c.1 h.1 in
      let whole-name : n.first.bytes ≡ name ++ flatten (n.tail ∷ []) = n.bytes ∙ ap (λ (x : List ℕ). name ++ x) (one_piece n.tail) in
      (answering (n.tail ∷ []) n.rest ks, any_cut sp sound reloaded keeps name n.first (n.tail ∷ []) n.rest ks n.flags whole-name k.0 k.1))

  pub mirror_exists : (name : List ℕ) (a : List (Act Edition)) → let os = operations name (log sp reloaded (fresh sp name) a) in
      Every MacFits os → Mirrored name os
  unfolding operations
  mirror_exists name a h =
      from_course name (operations name (log sp reloaded (fresh sp name) a)) (ends sp reloaded (fresh sp name) a)
      (named name (struck (log sp reloaded (fresh sp name) a)) (naming name) [] refl (sym (append-nil name))) (course sp sound reloaded keeps name a) h

  -- so that replay is not empty: every run that rejects no MAC, and whose sent MACs can be received, has a second end that it speaks of
  pub replay_exists : (name : List ℕ) (a : List (Act Edition)) → let es = log sp reloaded (fresh sp name) a in
      NoneRejected es → Every MacFits (operations name es)
      → (b : List (Act Edition)) × let fs = log sp reloaded (fresh sp name) b in
      NoneRefused fs × Each Mirrors (operations name es) (operations name fs)
      × Replayed sp name es fs (ends sp reloaded (fresh sp name) a) (ends sp reloaded (fresh sp name) b)
  replay_exists name a n h =
      let m = mirror_exists name a h in
      (m.0, (m.1.0, m.1.1, replay sp sound reloaded keeps name a m.0 n m.1.1))
