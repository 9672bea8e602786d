-- What replay asks of a sponge, and which sessions calls can lead to.
use Rattle.std.specs.Prelude.{true, List, ◌≡◌, ℕ, ◌≤◌, ◌<◌, length}
use Rattle.strobe.specs.Duplex.{Sponge}
use Rattle.strobe.specs.Strobe.{Strobe, well_formed}

-- the permutation keeps the count of state bytes, there is a rate, and the seed has room
pub record Sound (sp : Sponge) : Type 0 where
  pub keeps : (st : List ℕ) → length st ≡ sp.size → length (sp.perm st) ≡ sp.size
  pub rated : 0 < sp.rate
  pub roomy : 18 ≤ sp.size

-- well formed, and its state of the sponge's size; every session that calls lead to is so
pub record Usable (sp : Sponge) (s : Strobe) : Type 0 where
  pub well : well_formed sp.rate s ≡ true
  pub sized : length s.duplex.st ≡ sp.size
