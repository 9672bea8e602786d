-- What the loops of Keccak-f[1600] cite: one turn more of a loop that counts up, and what all of its turns make. Assumes nothing.
use mathlib.Core.Path.{◌≡◌, refl, ap, subst, ◌∙◌}
use mathlib.Core.List.{List, [], ◌∷◌, map}
use Prim.Native.Nat.{ℕ, zero, suc, ◌+◌, ◌*◌, ◌<◌}
use native.Mathlib.Nat.{add-zero, add-suc}
use native.Mathlib.Numerals.{add-one}
use lib.ListN.{length, get_or, set, replicate}
use borrow.Rule.Slice.PartMut.{put_mid}
use Rattle.fips202.specs.Keccak.{count_from}
use Rattle.fips202.specs.Lanes.{Fits, complement, round_constant, round_lanes, rounds_lanes, bytes_of_lane, bytes_of_lanes}
use Rattle.fips202.proofs.Count.{get_or-upto}
use Rattle.fips202.proofs.Rounds.{rounds_fit}
use Rattle.fips202.proofs.Steps.{lanes-whole}
use Rattle.keccak.specs.Complemented.{complemented}
use Rattle.keccak.proofs.Complemented.{complemented-fits, complemented_twice}

-- f 0, f 1, .., f (n - 1), one after the other
unfoldable pub turns : (ℕ → List ℕ → List ℕ) → ℕ → List ℕ → List ℕ
turns f zero a = a
turns f (suc n) a = f n (turns f n a)

pub turns_more : (f : ℕ → List ℕ → List ℕ) (n : ℕ) (a : List ℕ) {x y : List ℕ} → x ≡ turns f n a → y ≡ f n x → y ≡ turns f (n + 1) a
unfolding turns
turns_more f n a e h = rw add-one (h ∙ ap (f n) e)

-- k turns more
pub turns_join : (f : ℕ → List ℕ → List ℕ) (n k : ℕ) (a : List ℕ) → turns (λ j. f (n + j)) k (turns f n a) ≡ turns f (n + k) a
unfolding turns
turns_join f n zero a = rw (add-zero n)
turns_join f n (suc k) a = rw (add-suc n k) (ap (f (n + k)) (turns_join f n k a))

-- the loop that writes lanes
abbrev pub write_at : List ℕ → ℕ → List ℕ → List ℕ
write_at a i out = put_mid (i * 8) 8 out (bytes_of_lane 8 (get_or a i 0))

pub write_all : (a : List ℕ) → turns (write_at a) 25 (replicate 200 0) ≡ bytes_of_lanes 8 a
unfolding turns
write_all a = refl

-- the loop over the indices of the marked lanes
abbrev pub complement_at : List ℕ → ℕ → List ℕ → List ℕ
complement_at indices k s = let i = get_or indices k 0 in set s i (complement 64 (get_or s i 0))

abbrev pub marked : List ℕ
marked = 1 ∷ 2 ∷ 8 ∷ 12 ∷ 17 ∷ 20 ∷ []

pub complement_all : (a : List ℕ) → length a ≡ 25 → turns (complement_at marked) 6 a ≡ complemented 64 a
unfolding turns complemented
complement_all a long = subst (λ (s : List ℕ). turns (complement_at marked) 6 s ≡ complemented 64 s) (lanes-whole a long) refl

-- the loops over the rounds: round i, between lanes of which the marked ones are complemented
abbrev pub round_at : ℕ → List ℕ → List ℕ
round_at i s = complemented 64 (round_lanes 64 (round_constant 6 i) (complemented 64 s))

rounds-complemented : (a : List ℕ) → Fits 64 a → (n : ℕ) → complemented 64 (turns round_at n a) ≡ rounds_lanes 6 n (complemented 64 a)
unfolding turns rounds_lanes round_lanes
rounds-complemented a f zero = refl
rounds-complemented a f (suc n) =
    let b = complemented 64 a in
    ap (λ (s : List ℕ). complemented 64 (complemented 64 (round_lanes 64 (round_constant 6 n) s))) (rounds-complemented a f n)
    ∙ complemented_twice 64 (rounds_lanes 6 (suc n) b) (rounds_fit 6 b (complemented-fits 64 a f) (suc n)) refl

pub round_all : (a : List ℕ) → Fits 64 a → length a ≡ 25 → complemented 64 (turns round_at 24 (complemented 64 a)) ≡ rounds_lanes 6 24 a
round_all a f long =
    rounds-complemented (complemented 64 a) (complemented-fits 64 a f) 24 ∙ ap (rounds_lanes 6 24) (complemented_twice 64 a f long)

-- the round constants by rc(t), to which the code's table is held as a whole
abbrev pub round_constants : List ℕ
round_constants = map (round_constant 6) (count_from 0 24)

pub constant_at : (table : List ℕ) → table ≡ round_constants → (i : ℕ) → i < 24 → get_or table i 0 ≡ round_constant 6 i
constant_at table e i h = ap (λ (t : List ℕ). get_or t i 0) e ∙ get_or-upto (round_constant 6) 24 i h
