-- Facts on the twenty operations: each is tested once over the list of their flag bytes. Assumes nothing.
use Prim.Native.Nat.{ℕ, zero, suc, ◌<◌, ◌%◌}
use mathlib.Core.Path.{◌≡◌, refl}
use mathlib.Core.List.{List, [], ◌∷◌}
use mathlib.Core.Bool.{Bool, true, false, cond, ◌&&◌, ◌||◌}
use lib.Dec.{eqb, ltb}
use borrow.Author.Tests.{eqb-true, eqb-false, ltb-true}
use native.Mathlib.Omega.{arith}
use Rattle.strobe.specs.Duplex.{Rule}
use Rattle.strobe.specs.Every.{Every}
use Rattle.strobe.specs.Flags.{flags, I, A, C, T, has, operation_of, operation, known, is_recv_mac, absorbing, overwriting, squeezing, copying, enciphering, deciphering, rule_of}
use Rattle.strobe.specs.Loops.{among, takers, changers, macs, ratchets}
use Rattle.strobe.specs.declared.flags.Flags.{Flags}
use Rattle.strobe.specs.declared.flags.Operation.{Operation}
use Rattle.strobe.specs.declared.flags.Operation.TheVariants.{Ad, Ratchet, Key, Prf, SendClr, RecvClr, SendMac, RecvMac, SendEnc, RecvEnc, Unknown}

-- ---- what holds at each byte of a list holds of a byte among them

pub at_each : (P : Flags → Type 0) (l : List Flags) → Every P l → (f : Flags) → among l f ≡ true → P f
at_each P [] h f e = absurd (let z : ◌≡◌ {A = ℕ} 0 1 = cc in omega arith)
at_each P (g ∷ gs) h f e = go (eqb f.0 g.0) refl e (λ d. at_each P gs h.1 f d)
  where
    go : (t : Bool) → eqb f.0 g.0 ≡ t → t || among gs f ≡ true → (among gs f ≡ true → P f) → P f
    go true t e rest = let same : f.0 ≡ g.0 = eqb-true _ _ t in rw same h.0
    go false t e rest = rest e

-- ---- the rules, by the flags

abbrev pub taken : Bool → Rule
taken true = overwriting
taken false = absorbing

pub takers_rule : (f : Flags) → among takers f ≡ true → rule_of (operation f) ≡ taken (has f C)
unfolding operation operation_of
takers_rule = at_each (λ f. rule_of (operation f) ≡ taken (has f C)) takers (refl, (refl, (refl, (refl, (refl, (refl, (refl, (refl, tt))))))))

abbrev pub changed : Bool → Bool → Bool → Rule
changed true true a = deciphering
changed true false true = enciphering
changed true false false = copying
changed false i a = squeezing

pub changers_rule : (f : Flags) → among changers f ≡ true → rule_of (operation f) ≡ changed (has f T) (has f I) (has f A)
unfolding operation operation_of
changers_rule =
    at_each (λ f. rule_of (operation f) ≡ changed (has f T) (has f I) (has f A)) changers (refl, (refl, (refl, (refl, (refl, (refl, (refl, (refl, tt))))))))

pub takers_keep : (f : Flags) → among takers f ≡ true → (x b : ℕ) → (rule_of (operation f)).buffer x b ≡ b
unfolding operation operation_of
takers_keep =
    at_each (λ f. (x b : ℕ) → (rule_of (operation f)).buffer x b ≡ b) takers
    (λ x b. refl, (λ x b. refl, (λ x b. refl, (λ x b. refl, (λ x b. refl, (λ x b. refl, (λ x b. refl, (λ x b. refl, tt))))))))

pub takers_no_mac : (f : Flags) → among takers f ≡ true → is_recv_mac (operation f) ≡ false
unfolding operation operation_of
takers_no_mac = at_each (λ f. is_recv_mac (operation f) ≡ false) takers (refl, (refl, (refl, (refl, (refl, (refl, (refl, (refl, tt))))))))

pub changers_no_mac : (f : Flags) → among changers f ≡ true → is_recv_mac (operation f) ≡ false
unfolding operation operation_of
changers_no_mac = at_each (λ f. is_recv_mac (operation f) ≡ false) changers (refl, (refl, (refl, (refl, (refl, (refl, (refl, (refl, tt))))))))

pub macs_are : (f : Flags) → among macs f ≡ true → operation f ≡ RecvMac
unfolding operation operation_of
macs_are = at_each (λ f. operation f ≡ RecvMac) macs (refl, (refl, tt))

pub ratchets_are : (f : Flags) → among ratchets f ≡ true → operation f ≡ Ratchet
unfolding operation operation_of
ratchets_are = at_each (λ f. operation f ≡ Ratchet) ratchets (refl, (refl, tt))

-- ---- the way back: an operation's bytes are among a list

abbrev all_below : (ℕ → Bool) → ℕ → Bool
all_below p zero = true
all_below p (suc n) = p n && all_below p n

below_all : (p : ℕ → Bool) (k : ℕ) → all_below p k ≡ true → (n : ℕ) → n < k → p n ≡ true
below_all p zero h n l = absurd (omega arith)
below_all p (suc k) h n l = go (p k) refl h (eqb n k) refl (λ e m. below_all p k e n m)
  where
    go : (t : Bool) → p k ≡ t → t && all_below p k ≡ true → (u : Bool) → eqb n k ≡ u → (all_below p k ≡ true → n < k → p n ≡ true) → p n ≡ true
    go true e h true d rest = let z : n ≡ k = eqb-true _ _ d in rw z e
    go true e h false d rest = let z : n ≡ k → ⊥ = eqb-false _ _ d in rest h (omega arith)
    go false e h u d rest = absurd (let z : ◌≡◌ {A = ℕ} 0 1 = cc in omega arith)

-- which list an operation's bytes are in
abbrev pub handlers : Operation → List Flags
handlers Ad = takers
handlers Ratchet = ratchets
handlers Key = takers
handlers Prf = changers
handlers SendClr = takers
handlers RecvClr = takers
handlers SendMac = changers
handlers RecvMac = macs
handlers SendEnc = changers
handlers RecvEnc = changers
handlers Unknown = []

abbrev handled_at : ℕ → Bool
handled_at n = cond (known (operation (flags n))) (among (handlers (operation (flags n))) (flags n)) true

handled : all_below handled_at 0x20 ≡ true
unfolding operation operation_of
handled = refl

known_below : (f : Flags) → known (operation f) ≡ true → f.0 < 0x20
unfolding operation
known_below f e = go (ltb f.0 0x20) refl e
  where
    go : (t : Bool) → ltb f.0 0x20 ≡ t → known (cond t (operation_of (f.0 % 0x10)) Unknown) ≡ true → f.0 < 0x20
    go true t e = ltb-true _ _ t
    go false t e = absurd (let z : ◌≡◌ {A = ℕ} 0 1 = cc in omega arith)

pub handled_as : (f : Flags) (o : Operation) → operation f ≡ o → known o ≡ true → among (handlers o) f ≡ true
handled_as f o e k =
    let k' : known (operation f) ≡ true = rw e k in
    rw (k', e) at (below_all handled_at 0x20 handled f.0 (known_below f k'))
