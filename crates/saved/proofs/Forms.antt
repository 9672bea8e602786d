-- What the tests of a load and of a save settle. Assumes nothing.
use Prim.Native.Nat.{ℕ, ◌≤◌}
use mathlib.Core.Path.{◌≡◌}
use mathlib.Core.List.{List}
use mathlib.Core.Bool.{Bool, true, false}
use lib.ListN.{length}
use native.Mathlib.Omega.{arith}
use Rattle.strobe.specs.Answer.{done}
use Rattle.strobe.specs.Session.{given}
use Rattle.saved.specs.Saved.{Edition, edition1, edition2, size_of, byte_at, is_numbered, is_edition, fits, session_in, loaded_with, last_in, loaded}

-- ---- a load

pub size_least : (e : Edition) → size_of edition1 ≤ size_of e
size_least edition1 = omega arith
size_least edition2 = omega arith

-- the bytes of an edition have its length
pub edition_length : (e : Edition) (bs : List ℕ) → is_edition e bs ≡ true → length bs ≡ size_of e
unfolding is_numbered
edition_length e bs h = grind arith

-- so the editions keep apart
pub loaded_in : (e : Edition) (bs : List ℕ) → is_edition e bs ≡ true → loaded bs ≡ loaded_with bs (last_in e bs)
unfolding loaded is_numbered
loaded_in edition2 bs h = rw h
loaded_in edition1 bs h = rw (not_second, h)
  where
    not_second : is_edition edition2 bs ≡ false
    not_second = rw (edition_length edition1 bs h)

module _ (bs : List ℕ) (last : ℕ) where
  abbrev pub fitting : Bool
  fitting = fits (byte_at bs 1) (byte_at bs 2) (byte_at bs 3) (byte_at bs 4) last

  pub fitting_loaded : fitting ≡ true → loaded_with bs last ≡ given done (session_in bs last)
  unfolding loaded_with
  fitting_loaded e = rw e
