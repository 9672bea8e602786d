-- The cases on positions, docs/RULES.md, section 10: one table, and one statement about a row of it, over any permutation.
use Rattle.std.specs.Prelude.{Bool, true, false, List, [], ◌∷◌, ◌≡◌, ℕ, length}
use Rattle.strobe.specs.Answer.{done, not_the_last}
use Rattle.strobe.specs.Counting.{counting, runs_between}
use Rattle.strobe.specs.Duplex.{Sponge}
use Rattle.strobe.specs.Flags.{AD, RATCHET, KEY, META_AD}
use Rattle.strobe.specs.Session.{rate_of}
use Rattle.strobe.specs.Strobe.{Strobe, Effect, call, unnamed, fresh}
use Rattle.strobe.specs.declared.flags.Flags.{Flags}
use Rattle.strobe.specs.declared.level.Level.{Level}
use Rattle.strobe.specs.declared.level.Level.TheVariants.{B128, B256}

-- the operation that a row is about: the naming of the fresh session, or a call on it with these flags, `more` and number of bytes
pub data Deed : Type 0 where
  naming : Deed
  calling : Flags → Bool → ℕ → Deed

-- answer, position and begin position, blocks closed by the operation
pub record Result : Type 0 where
  pub answer : ℕ
  pub places : ℕ × ℕ
  pub blocks : ℕ

-- level, length of the protocol name, operation, what is expected
pub record Row : Type 0 where
  pub level : Level
  pub name : ℕ
  pub deed : Deed
  pub result : Result

abbrev pub row : Level → ℕ → Deed → ℕ → ℕ × ℕ → ℕ → Row
row l n d a p k = record { level = l; name = n; deed = d; result = record { answer = a; places = p; blocks = k } }

unfoldable pub table : List Row
table =
    row B128 0 naming done (2, 1) 0
    ∷ row B128 163 naming done (165, 1) 0
    ∷ row B128 164 naming done (0, 0) 1
    ∷ row B256 131 naming done (133, 1) 0
    ∷ row B256 132 naming done (0, 0) 1
    ∷ row B128 163 (calling AD false 0) done (1, 0) 1
    ∷ row B128 162 (calling AD false 0) done (0, 0) 1
    ∷ row B128 162 (calling KEY false 0) done (0, 0) 1
    ∷ row B128 163 (calling KEY false 0) done (0, 0) 2
    ∷ row B128 0 (calling RATCHET false 0) done (0, 0) 1
    ∷ row B128 0 (calling AD true 0) not_the_last (2, 1) 0
    ∷ row B128 0 (calling META_AD true 164) done (0, 0) 1
    ∷ []

-- ---- the statement

-- `sponge_of` is this at Keccak-f[1600]
abbrev pub sponge_with : (List ℕ → List ℕ) → Level → Sponge
sponge_with F l = record { perm = F; rate = rate_of l; size = 200 }

abbrev pub bytes : Deed → ℕ
bytes naming = 0
bytes (calling f more n) = n

-- the session that the operation meets
abbrev pub before : Sponge → List ℕ → Deed → Strobe
before sp name naming = unnamed sp
before sp name (calling f more n) = fresh sp name

-- what comes of the operation; the naming leaves the fresh session
abbrev pub effect : Sponge → List ℕ → List ℕ → Deed → Effect
effect sp name bs naming = call sp (unnamed sp) META_AD false name
effect sp name bs (calling f more n) = call sp (fresh sp name) f more bs

unfoldable pub result : Sponge → List ℕ → List ℕ → Deed → Result
result sp name bs d =
    let e = effect sp name bs d in
    record {
      answer = e.answer;
      places = (e.strobe.duplex.pos, e.strobe.duplex.begin);
      blocks = runs_between (before (counting sp) name d) (effect (counting sp) name bs d).strobe;
    }

-- for every name and every data of the row's lengths
abbrev pub Holds : (List ℕ → List ℕ) → Row → Type 0
Holds F c =
    (name bs : List ℕ) → length name ≡ c.name → length bs ≡ bytes c.deed
    → result (sponge_with F c.level) name bs c.deed ≡ c.result
