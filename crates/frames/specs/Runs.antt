-- A run of the code over an input that comes in any pieces: for each step what was lent and what came back, by the step's own promise.
use Rattle.std.specs.Prelude.{List, [], ◌++◌, ℕ, length, take, drop}
use Rattle.frames.specs.Steps.{stepped, place_of, Steps}
use Rattle.frames.specs.declared.journal.Journal.{Journal}
use Rattle.frames.specs.declared.journal.Stepped.{Stepped}

-- `Ran j input k written`: from j, over the input, to k; each step wrote into a buffer of its own. What a step did not take of its piece goes on in front
-- of the rest.
pub data Ran : Journal → List ℕ → Journal → List ℕ → Type 0 where
  ready : (j : Journal) → Ran j [] j []
  piece : (j : Journal) (input rest out out' : List ℕ) (r : Stepped)
      → Steps (stepped (place_of j) input (length out)) out r out'
      → (k : Journal) (written : List ℕ) → Ran r.journal (drop r.taken input ++ rest) k written
      → Ran j (input ++ rest) k (take r.put out' ++ written)
