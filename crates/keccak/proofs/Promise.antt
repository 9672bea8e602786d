-- `permute`'s promise fixes its answer. Assumes nothing.
use mathlib.Core.Path.{◌≡◌}
use mathlib.Core.List.{List}
use Prim.Native.Nat.{ℕ}
use Rattle.fips202.specs.Bytes.{keccak_f1600}
use Rattle.laws.proofs.Promise.{one_answer}

pub permute_one_answer : (state : List ℕ) {x y : List ℕ} → x ≡ keccak_f1600 state → y ≡ keccak_f1600 state → x ≡ y
permute_one_answer state p q = one_answer p q
