-- The lane of a round constant has FIPS 202's bits RC[z], over l: the register of rc(t) holds bits alone. Assumes nothing.
use mathlib.Core.Path.{◌≡◌}
use mathlib.Core.Bool.{Bool, true, false}
use mathlib.Core.List.{List, [], ◌∷◌}
use Prim.Native.Nat.{ℕ, zero, suc, ◌-◌, ◌^◌, ◌<◌}
use native.Mathlib.Omega.{arith}
use lib.ListN.{get_or, set, take, replicate}
use lib.Bits.{bit_xor, xor_lt}
use lib.Dec.{eqb}
use Rattle.fips202.specs.Keccak.{add_last, register, rc, RC_below, RC}
use Rattle.fips202.specs.Bytes.{bit}
use Rattle.fips202.specs.Lanes.{round_constant}
use Rattle.fips202.proofs.Number.{bit-number, number_lt}

AreBits : List ℕ → Type 0
AreBits R = (i : ℕ) → get_or R i 0 < 2

none : AreBits []
unfolding AreBits
none i = omega arith

cons : (b : ℕ) (R : List ℕ) → b < 2 → AreBits R → AreBits (b ∷ R)
unfolding AreBits
cons b R hb h zero = hb
cons b R hb h (suc i) = h i

stored : (R : List ℕ) (i b : ℕ) → b < 2 → AreBits R → AreBits (set R i b)
unfolding AreBits
stored [] i b hb h = none
stored (r ∷ R) zero b hb h = cons b R hb (λ j. h (suc j))
stored (r ∷ R) (suc i) b hb h = cons r (set R i b) (h 0) (stored R i b hb (λ j. h (suc j)))

taken : (n : ℕ) (R : List ℕ) → AreBits R → AreBits (take n R)
unfolding AreBits
taken zero R h = none
taken (suc n) [] h = none
taken (suc n) (r ∷ R) h = cons r (take n R) (h 0) (taken n R (λ j. h (suc j)))

added : (i : ℕ) (R : List ℕ) → AreBits R → AreBits (add_last i R)
unfolding AreBits add_last
added i R h = stored R i (bit_xor (get_or R i 0) (get_or R 8 0)) (xor_lt 1 (get_or R i 0) (get_or R 8 0) (h i) (h 8)) h

zeros : (n : ℕ) → AreBits (replicate n 0)
zeros zero = none
zeros (suc n) = cons 0 (replicate n 0) (omega arith) (zeros n)

register_bits : (i : ℕ) → AreBits (register i)
unfolding register
register_bits zero = cons 1 (replicate 7 0) (omega arith) (zeros 7)
register_bits (suc i) = taken 8 _ (added _ _ (added _ _ (added _ _ (added _ _ (cons 0 (register i) (omega arith) (register_bits i))))))

rc_lt : (t : ℕ) → rc t < 2
unfolding AreBits rc
rc_lt t = register_bits _ 0

picked_lt : (t : Bool) (a b : ℕ) → a < 2 → b < 2 → elim t as (λ _. ℕ) [ true ↦ a | false ↦ b ] < 2
picked_lt true a b ha hb = ha
picked_lt false a b ha hb = hb

RC_below_lt : (k ir z : ℕ) → RC_below k ir z < 2
RC_below_lt zero ir z = omega arith
RC_below_lt (suc j) ir z = picked_lt (eqb (2 ^ j - 1) z) _ (RC_below j ir z) (rc_lt _) (RC_below_lt j ir z)

pub constant_lt : (l ir : ℕ) → round_constant l ir < 2 ^ 2 ^ l
constant_lt l ir = number_lt (2 ^ l) (RC l ir) (RC_below_lt (suc l) ir)

pub constant_bits : (l ir z : ℕ) → z < 2 ^ l → bit z (round_constant l ir) ≡ RC l ir z
constant_bits l ir = bit-number (2 ^ l) (RC l ir) (RC_below_lt (suc l) ir)
