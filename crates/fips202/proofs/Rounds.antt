-- The round on lanes, and n rounds, have exactly the bits of FIPS 202's, over l (lanes of w = 2 ^ l bits). Assumes nothing.
use mathlib.Core.Path.{◌≡◌, ap}
use mathlib.Core.List.{List}
use Prim.Native.Nat.{ℕ, zero, suc, ◌+◌, ◌^◌, ◌<◌}
use native.Mathlib.Nat.{add-zero}
use native.Mathlib.Omega.{arith}
use lib.ListN.{length}
use Rattle.fips202.specs.Keccak.{Array, theta, rho, pi, chi, iota, rnd, rounds}
use Rattle.fips202.specs.Lanes.{Fits, bits_of, theta_lanes, rho_lanes, pi_lanes, chi_lanes, iota_lanes, round_constant, round_lanes, rounds_lanes}
use Rattle.fips202.proofs.Same.{Same, same_refl, same_trans}
use Rattle.fips202.proofs.Steps as S

pub rnd-same : (l ir : ℕ) (A B : Array) → Same (2 ^ l) A B → Same (2 ^ l) (rnd l ir A) (rnd l ir B)
unfolding rnd
rnd-same l ir A B h =
    let w = 2 ^ l in S.iota-same w _ _ (S.chi-same w _ _ (S.pi-same w _ _ (S.rho-same w _ _ (S.theta-same w A B h)))) l ir

pub rounds-same : (l i n : ℕ) (A B : Array) → Same (2 ^ l) A B → Same (2 ^ l) (rounds l i n A) (rounds l i n B)
unfolding rounds
rounds-same l i zero A B h = h
rounds-same l i (suc n) A B h = rnd-same l (n + i) (rounds l i n A) (rounds l i n B) (rounds-same l i n A B h)

pub rounds_next : (l n : ℕ) (A : Array) → rounds l 0 (suc n) A ≡ rnd l n (rounds l 0 n A)
unfolding rounds
rounds_next l n A = ap (λ (ir : ℕ). rnd l ir (rounds l 0 n A)) (add-zero n)

-- the lanes after theta, rho and pi, and a state array after them
abbrev pub before_chi : ℕ → List ℕ → List ℕ
before_chi w a = pi_lanes (rho_lanes w (theta_lanes w a))

abbrev pub array_before_chi : ℕ → Array → Array
array_before_chi w A = pi (rho w (theta w A))

module _ (w : ℕ) (a : List ℕ) (f : Fits w a) where
  pub before_chi_fits : Fits w (before_chi w a)
  before_chi_fits = let t = theta_lanes w a in S.pi-fits w (rho_lanes w t) (S.rho-fits w t (S.theta-fits w a f))

  pub before_chi_bits : Same w (bits_of (before_chi w a)) (array_before_chi w (bits_of a))
  before_chi_bits =
      let A = bits_of a in
      let t = theta_lanes w a in
      let r = rho_lanes w t in
      let ft : Fits w t = S.theta-fits w a f in
      let br = same_trans w (bits_of r) (rho w (bits_of t)) (rho w (theta w A)) (S.rho_bits w t ft) (S.rho-same w (bits_of t) (theta w A) (S.theta_bits w a f)) in
      same_trans w (bits_of (pi_lanes r)) (pi (bits_of r)) (pi (rho w (theta w A))) (S.pi_bits w r (S.rho-fits w t ft)) (S.pi-same w (bits_of r) (rho w (theta w A)) br)

module _ (l ir : ℕ) (a : List ℕ) (f : Fits (2 ^ l) a) where
  abbrev before : List ℕ
  before = before_chi (2 ^ l) a

  abbrev before_a : Array
  before_a = array_before_chi (2 ^ l) (bits_of a)

  abbrev after_chi : List ℕ
  after_chi = chi_lanes (2 ^ l) before

  after_chi_fits : Fits (2 ^ l) after_chi
  after_chi_fits = S.chi-fits (2 ^ l) before (before_chi_fits (2 ^ l) a f)

  after_chi_bits : Same (2 ^ l) (bits_of after_chi) (chi before_a)
  after_chi_bits =
      let w = 2 ^ l in
      same_trans w (bits_of after_chi) (chi (bits_of before)) (chi before_a) (S.chi_bits w before (before_chi_fits w a f))
      (S.chi-same w (bits_of before) before_a (before_chi_bits w a f))

  after_chi_some : 0 < length after_chi
  after_chi_some = omega arith

  pub round_fits : Fits (2 ^ l) (round_lanes (2 ^ l) (round_constant l ir) a)
  unfolding round_lanes
  round_fits = S.iota-fits l ir after_chi after_chi_fits after_chi_some

  pub round_bits : Same (2 ^ l) (bits_of (round_lanes (2 ^ l) (round_constant l ir) a)) (rnd l ir (bits_of a))
  unfolding round_lanes rnd
  round_bits =
      same_trans (2 ^ l) (bits_of (iota_lanes (round_constant l ir) after_chi)) (iota l ir (bits_of after_chi)) (iota l ir (chi before_a))
      (S.iota_bits l ir after_chi after_chi_fits after_chi_some) (S.iota-same (2 ^ l) (bits_of after_chi) (chi before_a) after_chi_bits l ir)

module _ (l : ℕ) (a : List ℕ) (f : Fits (2 ^ l) a) where
  pub rounds_fit : (n : ℕ) → Fits (2 ^ l) (rounds_lanes l n a)
  unfolding rounds_lanes
  rounds_fit zero = f
  rounds_fit (suc n) = round_fits l n (rounds_lanes l n a) (rounds_fit n)

  pub rounds_bits : (n : ℕ) → Same (2 ^ l) (bits_of (rounds_lanes l n a)) (rounds l 0 n (bits_of a))
  unfolding rounds_lanes rounds
  rounds_bits zero = same_refl (2 ^ l) (bits_of a)
  rounds_bits (suc n) =
      let b = rounds_lanes l n a in
      rw (rounds_next l n (bits_of a))
      (same_trans (2 ^ l) (bits_of (rounds_lanes l (suc n) a)) (rnd l n (bits_of b)) (rnd l n (rounds l 0 n (bits_of a)))
      (round_bits l n b (rounds_fit n)) (rnd-same l n (bits_of b) (rounds l 0 n (bits_of a)) (rounds_bits n)))
