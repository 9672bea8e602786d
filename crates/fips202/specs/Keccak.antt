-- FIPS 202, section 3, in its own order: KECCAK-f on single bits. A bit is the number 0 or 1. Everything is over l, and the lane
-- width w = 2 ^ l of a permutation of 25 w bits: l = 4, 5, 6 for 400, 800, 1600.
use Rattle.std.specs.Prelude.{true, false, ◌&&◌, List, [], ◌∷◌, map, ℕ, zero, suc, ◌+◌, ◌*◌, ◌-◌, ◌/◌, ◌%◌, ◌^◌, get_or, set, take, eqb}
use Rattle.std.specs.Int.Bits.{bit_xor, bit_and}

-- 3.1: a state array. `A x y z` is the bit A[x, y, z]. Only x, y < 5 and z < w count
abbrev pub Array : Type 0
Array = ℕ → ℕ → ℕ → ℕ

-- 3.1.2: the state array of a string S of 25 w bits
abbrev pub array_of : ℕ → List ℕ → Array
array_of w S x y z = get_or S (w * (5 * y + x) + z) 0

-- i, i + 1, .., n numbers in all
abbrev pub count_from : ℕ → ℕ → List ℕ
count_from i zero = []
count_from i (suc n) = i ∷ count_from (suc i) n

-- 3.1.3: the string of a state array, plane after plane, and in a plane lane after lane
unfoldable pub string_of : ℕ → Array → List ℕ
string_of w A = map (λ i. A (i / w % 5) (i / w / 5) (i % w)) (count_from 0 (25 * w))

-- (z - n) mod w
abbrev pub back : ℕ → ℕ → ℕ → ℕ
back w z n = (z + (w - n % w)) % w

-- 3.2.1, Algorithm 1: theta
abbrev pub theta_c : Array → ℕ → ℕ → ℕ
theta_c A x z = bit_xor (bit_xor (bit_xor (bit_xor (A x 0 z) (A x 1 z)) (A x 2 z)) (A x 3 z)) (A x 4 z)

abbrev pub theta_d : ℕ → Array → ℕ → ℕ → ℕ
theta_d w A x z = bit_xor (theta_c A ((x + 4) % 5) z) (theta_c A ((x + 1) % 5) (back w z 1))

abbrev pub theta : ℕ → Array → Array
theta w A x y z = bit_xor (A x y z) (theta_d w A x z)

-- 3.2.2, Algorithm 2: rho. Steps 2 and 3b: where the walk over the lanes is in turn t
abbrev pub walk : ℕ → ℕ × ℕ
walk zero = (1, 0)
walk (suc t) = ((walk t).1, (2 * (walk t).0 + 3 * (walk t).1) % 5)

-- the offset of lane (x, y): (t + 1)(t + 2)/2, for the turn t that is at (x, y), looked for in k turns from t on (step 3a). No turn is at
-- (0, 0), which stays (step 1)
abbrev pub offset_from : ℕ → ℕ → ℕ → ℕ → ℕ
offset_from zero t x y = 0
offset_from (suc k) t x y =
    elim (eqb (walk t).0 x && eqb (walk t).1 y) [ true ↦ (t + 1) * (t + 2) / 2 | false ↦ offset_from k (suc t) x y ]

unfoldable pub offset : ℕ → ℕ → ℕ
offset x y = offset_from 24 0 x y

abbrev pub rho : ℕ → Array → Array
rho w A x y z = A x y (back w z (offset x y))

-- 3.2.3, Algorithm 3: pi
abbrev pub pi : Array → Array
pi A x y z = A ((x + 3 * y) % 5) x z

-- 3.2.4, Algorithm 4: chi
abbrev pub chi : Array → Array
chi A x y z = bit_xor (A x y z) (bit_and (bit_xor (A ((x + 1) % 5) y z) 1) (A ((x + 2) % 5) y z))

-- 3.2.5, Algorithm 5: rc(t). Steps 3b to 3e: R[8] is added to R[i]
unfoldable pub add_last : ℕ → List ℕ → List ℕ
add_last i R = set R i (bit_xor (get_or R i 0) (get_or R 8 0))

-- the register R after i turns of step 3: a 0 in front, the four sums, the first eight bits
unfoldable pub register : ℕ → List ℕ
register zero = 1 ∷ 0 ∷ 0 ∷ 0 ∷ 0 ∷ 0 ∷ 0 ∷ 0 ∷ []
register (suc i) = take 8 (add_last 6 (add_last 5 (add_last 4 (add_last 0 (0 ∷ register i)))))

unfoldable pub rc : ℕ → ℕ
rc t = get_or (register (t % 255)) 0 0

-- Algorithm 6, steps 2 and 3: RC[z] of round ir. RC[2^j - 1] = rc(j + 7 ir) for j from 0 to l, and its other bits are 0; `RC_below k` has
-- the j below k
abbrev pub RC_below : ℕ → ℕ → ℕ → ℕ
RC_below zero ir z = 0
RC_below (suc j) ir z = elim (eqb (2 ^ j - 1) z) [ true ↦ rc (j + 7 * ir) | false ↦ RC_below j ir z ]

abbrev pub RC : ℕ → ℕ → ℕ → ℕ
RC l ir z = RC_below (suc l) ir z

-- steps 1 and 4: iota
abbrev pub iota : ℕ → ℕ → Array → Array
iota l ir A zero zero z = bit_xor (A 0 0 z) (RC l ir z)
iota l ir A zero (suc y) z = A 0 (suc y) z
iota l ir A (suc x) y z = A (suc x) y z

-- 3.3: Rnd(A, ir)
unfoldable pub rnd : ℕ → ℕ → Array → Array
rnd l ir A = iota l ir (chi (pi (rho (2 ^ l) (theta (2 ^ l) A))))

-- Algorithm 7, step 2: n rounds, the first of them with ir = i
unfoldable pub rounds : ℕ → ℕ → ℕ → Array → Array
rounds l i zero A = A
rounds l i (suc n) A = rnd l (n + i) (rounds l i n A)

-- Algorithm 7: KECCAK-p[25 w, n], whose rounds have ir from 12 + 2 l - n to 12 + 2 l - 1
unfoldable pub keccak_p : ℕ → ℕ → List ℕ → List ℕ
keccak_p l n S = string_of (2 ^ l) (rounds l (12 + 2 * l - n) n (array_of (2 ^ l) S))

-- 3.4: KECCAK-f[25 w]
unfoldable pub keccak_f : ℕ → List ℕ → List ℕ
keccak_f l S = keccak_p l (12 + 2 * l) S
