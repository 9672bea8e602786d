-- The promises of the bench's functions fix what they leave: the permuted state, and the two buffers of a row. Assumes nothing.
use mathlib.Core.Path.{◌≡◌}
use mathlib.Core.List.{List}
use Prim.Native.Nat.{ℕ}
use Rattle.bench.specs.Rows.{Row}
use Rattle.fips202.specs.Bytes.{keccak_f1600}
use Rattle.laws.proofs.Promise.{one_answer}
use Rattle.strobe.specs.declared.flags.Flags.{Flags}

pub bench_permute_one_answer : (state : List ℕ) {x y : List ℕ} → x ≡ keccak_f1600 state → y ≡ keccak_f1600 state → x ≡ y
bench_permute_one_answer state p q = one_answer p q

-- `bench_ad`, `bench_send_enc` and `bench_prf`, over their flags
pub row_one_answer : (f : Flags) (times : ℕ) (buf out : List ℕ) {x y x' y' : List ℕ}
    → Row f times buf out x x' → Row f times buf out y y' → (x ≡ y) × (x' ≡ y')
row_one_answer f times buf out p q = (one_answer p.lent q.lent, one_answer p.last q.last)
