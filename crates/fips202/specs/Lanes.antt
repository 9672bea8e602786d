-- The forms that code meets: the step mappings on 25 lanes of w bits, and lanes from bytes and back. A lane is a number below 2 ^ w, and
-- lane x + 5 y of the list has the bits A[x, y, z]. Nothing here is to be believed: proofs/Permutation ties it to FIPS 202's bits.
use Rattle.std.specs.Prelude.{List, [], ◌∷◌, map, ℕ, zero, suc, ◌+◌, ◌*◌, ◌-◌, ◌/◌, ◌%◌, ◌^◌, ◌<◌, get_or, set}
use Rattle.std.specs.Int.Bits.{bit_xor, bit_and, bit_or}
use Rattle.fips202.specs.Keccak.{Array, count_from, RC}
use Rattle.fips202.specs.Bytes.{bit, number}

abbrev pub lane : List ℕ → ℕ → ℕ → ℕ
lane a x y = get_or a (x + 5 * y) 0

abbrev pub lanes : (ℕ → ℕ → ℕ) → List ℕ
lanes f = map (λ i. f (i % 5) (i / 5)) (count_from 0 25)

-- each lane has w bits
abbrev pub Fits : ℕ → List ℕ → Type 0
Fits w a = (x y : ℕ) → x < 5 → y < 5 → lane a x y < 2 ^ w

-- the state array of a list of lanes
abbrev pub bits_of : List ℕ → Array
bits_of a x y z = bit z (lane a x y)

-- x turned left by n within w bits
abbrev pub rotl : ℕ → ℕ → ℕ → ℕ
rotl w x zero = x
rotl w x (suc n) = bit_or ((x * 2 ^ suc n) % 2 ^ w) (x / 2 ^ (w - suc n))

abbrev pub complement : ℕ → ℕ → ℕ
complement w x = (2 ^ w - 1) - x

-- Algorithm 1: theta
abbrev pub column : List ℕ → ℕ → ℕ
column a x = bit_xor (bit_xor (bit_xor (bit_xor (lane a x 0) (lane a x 1)) (lane a x 2)) (lane a x 3)) (lane a x 4)

abbrev pub theta_at : ℕ → List ℕ → ℕ → ℕ → ℕ
theta_at w a x y = bit_xor (lane a x y) (bit_xor (column a ((x + 4) % 5)) (rotl w (column a ((x + 1) % 5)) (1 % w)))

abbrev pub theta_lanes : ℕ → List ℕ → List ℕ
theta_lanes w a = lanes (theta_at w a)

-- Algorithm 2: rho, by the offsets of Table 2, that of lane (x, y) at x + 5 y
abbrev pub offsets : List ℕ
offsets = 0 ∷ 1 ∷ 190 ∷ 28 ∷ 91 ∷ 36 ∷ 300 ∷ 6 ∷ 55 ∷ 276 ∷ 3 ∷ 10 ∷ 171 ∷ 153 ∷ 231 ∷ 105 ∷ 45 ∷ 15 ∷ 21 ∷ 136 ∷ 210 ∷ 66 ∷ 253 ∷ 120 ∷ 78 ∷ []

abbrev pub rho_at : ℕ → List ℕ → ℕ → ℕ → ℕ
rho_at w a x y = rotl w (lane a x y) (get_or offsets (x + 5 * y) 0 % w)

abbrev pub rho_lanes : ℕ → List ℕ → List ℕ
rho_lanes w a = lanes (rho_at w a)

-- Algorithm 3: pi
abbrev pub pi_at : List ℕ → ℕ → ℕ → ℕ
pi_at a x y = lane a ((x + 3 * y) % 5) x

abbrev pub pi_lanes : List ℕ → List ℕ
pi_lanes a = lanes (pi_at a)

-- Algorithm 4: chi
abbrev pub chi_at : ℕ → List ℕ → ℕ → ℕ → ℕ
chi_at w a x y = bit_xor (lane a x y) (bit_and (complement w (lane a ((x + 1) % 5) y)) (lane a ((x + 2) % 5) y))

abbrev pub chi_lanes : ℕ → List ℕ → List ℕ
chi_lanes w a = lanes (chi_at w a)

-- Algorithm 6: iota, with the lane c of the round constant
abbrev pub iota_lanes : ℕ → List ℕ → List ℕ
iota_lanes c a = set a 0 (bit_xor (get_or a 0 0) c)

abbrev pub round_constant : ℕ → ℕ → ℕ
round_constant l ir = number (2 ^ l) (RC l ir)

-- 3.3: the round, and the first n rounds
unfoldable pub round_lanes : ℕ → ℕ → List ℕ → List ℕ
round_lanes w c a = iota_lanes c (chi_lanes w (pi_lanes (rho_lanes w (theta_lanes w a))))

unfoldable pub rounds_lanes : ℕ → ℕ → List ℕ → List ℕ
rounds_lanes l zero a = a
rounds_lanes l (suc n) a = round_lanes (2 ^ l) (round_constant l n) (rounds_lanes l n a)

-- B.1: the number that bytes stand for, the least significant first
abbrev pub le_number : List ℕ → ℕ
le_number [] = 0
le_number (b ∷ bs) = b + 2 ^ 8 * le_number bs

-- lane i of a state's bytes, m bytes a lane, and all of them
abbrev pub lane_of_bytes : ℕ → List ℕ → ℕ → ℕ
lane_of_bytes m s i = le_number (map (λ k. get_or s (m * i + k) 0) (count_from 0 m))

abbrev pub lanes_of_bytes : ℕ → List ℕ → List ℕ
lanes_of_bytes m s = map (lane_of_bytes m s) (count_from 0 25)

-- byte k of a number, a lane's m bytes, and the bytes of all lanes
abbrev pub byte : ℕ → ℕ → ℕ
byte k x = x / 2 ^ (8 * k) % 2 ^ 8

abbrev pub bytes_of_lane : ℕ → ℕ → List ℕ
bytes_of_lane m x = map (λ k. byte k x) (count_from 0 m)

abbrev pub bytes_of_lanes : ℕ → List ℕ → List ℕ
bytes_of_lanes m a = map (λ j. byte (j % m) (get_or a (j / m) 0)) (count_from 0 (m * 25))
