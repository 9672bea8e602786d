-- chi over lanes of which some are complemented: lane by lane, a lane xor the and or the or of the next two, each as it is or complemented.
-- That this is chi is computed once, for each lane and each three bits. Over the lane width w. Assumes nothing.
use mathlib.Core.Path.{◌≡◌, refl, sym, ap, ap₂, ◌∙◌}
use mathlib.Core.List.{List, [], ◌∷◌, map}
use Prim.Native.Nat.{ℕ, zero, suc, ◌+◌, ◌*◌, ◌/◌, ◌%◌, ◌^◌, ◌<◌}
use native.Mathlib.Nat.{mod-lt}
use native.Mathlib.Omega.{arith}
use lib.ListN.{get_or}
use lib.Bits.{bit_xor, bit_and, bit_or, xor_lt, and_lt, or_lt}
use Rattle.fips202.specs.Keccak.{count_from}
use Rattle.fips202.specs.Bytes.{bit}
use Rattle.fips202.specs.Lanes.{lane, lanes, Fits, bits_of, chi_lanes, iota_lanes, round_lanes}
use Rattle.fips202.proofs.Count.{get_or-upto}
use Rattle.fips202.proofs.Bit.{bit-bit_xor, bit-bit_and, bit-bit_or, ext_bit}
use Rattle.fips202.proofs.Steps.{lanes-same, chi-fits, chi_bits}
use Rattle.fips202.proofs.Rounds.{before_chi, before_chi_fits}
use Rattle.keccak.specs.Complemented.{marks, by_mark, complemented_at, complemented}
use Rattle.keccak.proofs.Complemented.{bit_by_mark, by_mark_lt, by_mark-bit, mark_array, marks_before_chi, complemented-fits, before_chi_marked}

-- ---- the form of lane (x, y)

-- 1 where the code joins the next two lanes by an or, at x + 5 y. That is all there is to choose
abbrev ors : List ℕ
ors =
    1 ∷ 1 ∷ 0 ∷ 1 ∷ 0
    ∷ 1 ∷ 0 ∷ 1 ∷ 1 ∷ 0
    ∷ 1 ∷ 0 ∷ 0 ∷ 1 ∷ 0
    ∷ 0 ∷ 1 ∷ 1 ∷ 0 ∷ 1
    ∷ 0 ∷ 1 ∷ 0 ∷ 1 ∷ 0 ∷ []

abbrev or_at : ℕ → ℕ → ℕ
or_at x y = get_or ors (x + 5 * y) 0

-- it follows where the lane itself, the next and the third are complemented: not (u and v) is (not u) or (not v)
abbrev own : ℕ → ℕ → ℕ
own x y = bit_xor (bit_xor (marks_before_chi x y) (mark_array x y 0)) (or_at x y)

abbrev next : ℕ → ℕ → ℕ
next x y = bit_xor (bit_xor (marks_before_chi ((x + 1) % 5) y) 1) (or_at x y)

abbrev third : ℕ → ℕ → ℕ
third x y = bit_xor (marks_before_chi ((x + 2) % 5) y) (or_at x y)

abbrev joined : ℕ → ℕ → ℕ → ℕ
joined zero a b = bit_and a b
joined (suc o) a b = bit_or a b

-- of lanes and of bits: `by` says what a mark does to one
abbrev form : (ℕ → ℕ → ℕ) → ℕ → ℕ → ℕ → ℕ → ℕ → ℕ
form by x y a b c = bit_xor (by (own x y) a) (joined (or_at x y) (by (next x y) b) (by (third x y) c))

abbrev pub form_at : ℕ → List ℕ → ℕ → ℕ → ℕ
form_at w p x y = form (by_mark w) x y (lane p x y) (lane p ((x + 1) % 5) y) (lane p ((x + 2) % 5) y)

-- the round with these forms for chi: what the code computes
abbrev pub marked_round : ℕ → ℕ → List ℕ → List ℕ
marked_round w c a = iota_lanes c (lanes (form_at w (before_chi w a)))

-- ---- on bits

-- chi's bit of lane (x, y), complemented by the marks: those of the lanes that chi reads, and of the lane that it gives
abbrev chi_bit : ℕ → ℕ → ℕ → ℕ → ℕ → ℕ
chi_bit x y u v t =
    bit_xor
    (bit_xor (bit_xor u (marks_before_chi x y))
    (bit_and (bit_xor (bit_xor v (marks_before_chi ((x + 1) % 5) y)) 1) (bit_xor t (marks_before_chi ((x + 2) % 5) y))))
    (mark_array x y 0)

-- each lane with each three bits, counted by k
abbrev counted : (ℕ → ℕ → ℕ → ℕ → ℕ → ℕ) → ℕ → ℕ
counted f k = f (k / 8 % 5) (k / 40) (k / 4 % 2) (k / 2 % 2) (k % 2)

each_three_bits : map (counted (form bit_by_mark)) (count_from 0 200) ≡ map (counted chi_bit) (count_from 0 200)
each_three_bits = refl

form_is_chi : (x y u v t : ℕ) → x < 5 → y < 5 → u < 2 → v < 2 → t < 2 → form bit_by_mark x y u v t ≡ chi_bit x y u v t
form_is_chi x y u v t hx hy hu hv ht =
    let k = 8 * (x + 5 * y) + 4 * u + 2 * v + t in
    let ex : k / 8 % 5 ≡ x = omega arith in
    let ey : k / 40 ≡ y = omega arith in
    let eu : k / 4 % 2 ≡ u = omega arith in
    let ev : k / 2 % 2 ≡ v = omega arith in
    let et : k % 2 ≡ t = omega arith in
    let h : k < 200 = omega arith in
    rw (ex, ey, eu, ev, et) at
    (sym (get_or-upto (counted (form bit_by_mark)) 200 k h) ∙ ap (λ (l : List ℕ). get_or l k 0) each_three_bits ∙ get_or-upto (counted chi_bit) 200 k h)

-- ---- on lanes

bit-joined : (z o a b : ℕ) → bit z (joined o a b) ≡ joined o (bit z a) (bit z b)
bit-joined z zero a b = bit-bit_and z a b
bit-joined z (suc o) a b = bit-bit_or z a b

joined_lt : (w o a b : ℕ) → a < 2 ^ w → b < 2 ^ w → joined o a b < 2 ^ w
joined_lt w zero a b ha hb = and_lt w a b ha hb
joined_lt w (suc o) a b ha hb = or_lt w a b ha hb

module _ (w x y a b c : ℕ) (ha : a < 2 ^ w) (hb : b < 2 ^ w) (hc : c < 2 ^ w) where
  form_lt : form (by_mark w) x y a b c < 2 ^ w
  form_lt =
      xor_lt w _ _ (by_mark_lt w (own x y) a ha) (joined_lt w (or_at x y) _ _ (by_mark_lt w (next x y) b hb) (by_mark_lt w (third x y) c hc))

  form-bit : (z : ℕ) → z < w → bit z (form (by_mark w) x y a b c) ≡ form bit_by_mark x y (bit z a) (bit z b) (bit z c)
  form-bit z hz =
      bit-bit_xor z (by_mark w (own x y) a) _
      ∙ ap₂ bit_xor (by_mark-bit w (own x y) a z ha hz)
      (bit-joined z (or_at x y) _ _ ∙ ap₂ (joined (or_at x y)) (by_mark-bit w (next x y) b z hb hz) (by_mark-bit w (third x y) c z hc hz))

module _ (w : ℕ) (a : List ℕ) (f : Fits w a) where
  -- what chi reads: of the lanes as they stand, and of them complemented
  abbrev p : List ℕ
  p = before_chi w a

  abbrev q : List ℕ
  q = before_chi w (complemented w a)

  p_fits : Fits w p
  p_fits = before_chi_fits w a f

  q_fits : Fits w q
  q_fits = before_chi_fits w (complemented w a) (complemented-fits w a f)

  forms_are_chi : lanes (form_at w p) ≡ complemented w (chi_lanes w q)
  unfolding complemented
  forms_are_chi = lanes-same (form_at w p) (complemented_at w (chi_lanes w q)) lane_by_lane
    where
      lane_by_lane : (x y : ℕ) → x < 5 → y < 5 → form_at w p x y ≡ complemented_at w (chi_lanes w q) x y
      lane_by_lane x y hx hy =
          let mark = get_or marks (x + 5 * y) 0 in
          let i = (x + 1) % 5 in
          let j = (x + 2) % 5 in
          let hi : i < 5 = omega arith in
          let hj : j < 5 = omega arith in
          let chi-lt = chi-fits w q q_fits x y hx hy in
          ext_bit w (form_at w p x y) (complemented_at w (chi_lanes w q) x y)
          (form_lt w x y (lane p x y) (lane p i y) (lane p j y) (p_fits x y hx hy) (p_fits i y hi hy) (p_fits j y hj hy))
          (by_mark_lt w mark (lane (chi_lanes w q) x y) chi-lt)
          (λ z hz.
          form-bit w x y (lane p x y) (lane p i y) (lane p j y) (p_fits x y hx hy) (p_fits i y hi hy) (p_fits j y hj hy) z hz
          ∙ form_is_chi x y (bits_of p x y z) (bits_of p i y z) (bits_of p j y z) hx hy (mod-lt _ (omega arith)) (mod-lt _ (omega arith)) (mod-lt _ (omega arith))
          ∙ sym
          (by_mark-bit w mark (lane (chi_lanes w q) x y) z chi-lt hz
          ∙ ap (λ (n : ℕ). bit_xor n (mark_array x y 0))
          (chi_bits w q q_fits x y z hx hy hz
          ∙ ap₂ bit_xor (before_chi_marked w a f x y z hx hy hz)
          (ap₂ bit_and (ap (λ (n : ℕ). bit_xor n 1) (before_chi_marked w a f i y z hi hy hz)) (before_chi_marked w a f j y z hj hy hz)))))

-- iota changes lane 0, which is not marked
pub round_marked : (w c : ℕ) (a : List ℕ) → Fits w a → marked_round w c a ≡ complemented w (round_lanes w c (complemented w a))
unfolding round_lanes complemented
round_marked w c a f = ap (iota_lanes c) (forms_are_chi w a f)

-- the same, where b is what chi reads
pub round_over : (w c : ℕ) (a b : List ℕ) → b ≡ before_chi w a → Fits w a
    → iota_lanes c (lanes (form_at w b)) ≡ complemented w (round_lanes w c (complemented w a))
round_over w c a b e f = ap (λ (p : List ℕ). iota_lanes c (lanes (form_at w p))) e ∙ round_marked w c a f
