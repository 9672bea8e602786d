-- Lanes as chunks of eight bytes, the least significant first. Assumes nothing.
use mathlib.Core.Path.{◌≡◌, sym, ap, subst, ◌∙◌}
use mathlib.Core.List.{List, [], map}
use Prim.Native.Nat.{ℕ, zero, suc, ◌+◌, ◌*◌, ◌<◌}
use native.Mathlib.Nat.{add-zero, zero-add, div-one}
use native.Mathlib.Numerals.{unary_clauses}
use native.Mathlib.Omega.{arith}
use denote.Param.Members.{Mut, Called}
use lib.ListN.{get_or, drop}
use Rattle.std.proofs.lemmas.List.{get_or-take, get_or-drop}
use Rattle.std.proofs.lemmas.List.FromFn.{fill_by_all}
use Rattle.std.specs.Array.{IsFromFnResult, IsFromFnResultFrom}
use Rattle.std.specs.List.{range_with_len}
use Rattle.std.specs.Int.{w64, from_le_bytes, to_le_bytes}
use Rattle.std.specs.Simd.{first_chunks}
use Rattle.fips202.specs.Lanes.{lane_of_bytes, lanes_of_bytes, bytes_of_lane}
use Rattle.fips202.proofs.Count.{same_upto}

chunk-byte : (k : ℕ) (s : List ℕ) (i j : ℕ) → i < k → j < 8 → get_or (get_or (first_chunks 8 k s) i []) j 0 ≡ get_or s (8 * i + j) 0
chunk-byte zero s i j h l = absurd (omega arith)
chunk-byte (suc k) s zero j h l = get_or-take 8 s j 0 l ∙ ap (λ (n : ℕ). get_or s n 0) (sym (zero-add j))
chunk-byte (suc k) s (suc i) j h l =
    let e : 8 + (8 * i + j) ≡ 8 * suc i + j = omega arith in
    chunk-byte k (drop 8 s) i j (omega arith) l ∙ get_or-drop 8 s (8 * i + j) 0 ∙ ap (λ (n : ℕ). get_or s n 0) e

lane_of_chunk : (s : List ℕ) (i : ℕ) → i < 25 → from_le_bytes w64 (get_or (first_chunks 8 25 s) i []) ≡ lane_of_bytes 8 s i
lane_of_chunk s i h =
    let at = λ (j : ℕ) (l : j < 8). chunk-byte 25 s i j h l in
    omega (arith, at 0 (omega arith), at 1 (omega arith), at 2 (omega arith), at 3 (omega arith), at 4 (omega arith), at 5 (omega arith), at 6 (omega arith), at 7 (omega arith))

pub lanes_of_chunks : (s : List ℕ) {chunks : List (List ℕ)} → chunks ≡ first_chunks 8 25 s
    → map (λ k. from_le_bytes w64 (get_or chunks k [])) (range_with_len 0 25) ≡ lanes_of_bytes 8 s
lanes_of_chunks s e = rw e (same_upto (λ k. from_le_bytes w64 (get_or (first_chunks 8 25 s) k [])) (lane_of_bytes 8 s) 25 (lane_of_chunk s))

pub bytes_are_lane : (x : ℕ) → to_le_bytes w64 x ≡ bytes_of_lane 8 x
bytes_are_lane x = simp (div-one, unary_clauses)

-- an array made by calls that give `want` and leave the closure as it was
module _ {F : Type 0} (g : Mut F (ℕ × Unit {0}) ℕ) (f : F) (want : ℕ → ℕ) (n : ℕ)
    (call : (k y : ℕ) (q : F) → k < n → Called g f (k, tt) y q → (y ≡ want k) × (q ≡ f)) where
  from : (ys : List ℕ) (i left : ℕ) → i + left ≡ n → IsFromFnResultFrom g f ys i left → (j : ℕ) → j < left → get_or ys (i + j) 0 ≡ want (i + j)
  from ys i zero e made j h = absurd (omega arith)
  from ys i (suc left) e made zero h =
      let at : get_or ys i 0 ≡ want i = made.2.1 0 ∙ (call i made.1 made.0 (omega arith) made.3).0 in
      rw (add-zero i) at
  from ys i (suc left) e made (suc j) h =
      let same : made.0 ≡ f = (call i made.1 made.0 (omega arith) made.3).1 in
      let next : i + 1 + j ≡ i + suc j = omega arith in
      let rest = subst (λ (q : F). IsFromFnResultFrom g q ys (i + 1) left) same made.4 in
      rw next at (from ys (i + 1) left (omega arith) rest j (omega arith))

  pub made_by : (ys : List ℕ) → IsFromFnResult g f ys n → ys ≡ map want (range_with_len 0 n)
  made_by ys made =
      fill_by_all want ys n 0 made.long (λ j h. rw (zero-add j) at (from ys 0 n (zero-add n) made.each j h))
