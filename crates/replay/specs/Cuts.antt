-- How the second end may cut the mirrors of operations, and where it may be saved and loaded.
use Rattle.std.specs.Prelude.{Bool, true, false, ◌≡◌, ℕ, ◌≤◌, length}
use mathlib.Core.List.{List, [], ◌∷◌, ◌++◌, map, flatten}
use Rattle.strobe.specs.Every.{Every}
use Rattle.strobe.specs.Flags.{META_AD, operation, is_recv_mac, mac_limit, over_limit}
use Rattle.strobe.specs.declared.flags.Flags.{Flags}
use Rattle.strobe.specs.declared.flags.Operation.TheVariants.{SendMac}
use Rattle.replay.specs.History.{Act, ask, reload, Joined}
use Rattle.replay.specs.Mirror.{mirrored, Lends}

-- the reloads before an operation, the bytes of the call that begins it, and of those that carry it on
pub record Cut (Edition : Type 0) : Type 0 where
  pub reloads : List Edition
  pub first : List ℕ
  pub others : List (List ℕ)

abbrev pub bytes_of : {Edition : Type 0} → Cut Edition → List ℕ
bytes_of k = k.first ++ flatten k.others

-- a way to cut the mirror of a: the bytes are those to be lent, each piece is within one call's limit, and a MAC is received whole
pub record Cuts {Edition : Type 0} (a : Joined) (k : Cut Edition) : Type 0 where
  pub lends : Lends (operation a.flags) a (bytes_of k)
  pub within : Every (λ (bs : List ℕ). over_limit (operation (mirrored a.flags)) (length bs) ≡ false) (k.first ∷ k.others)
  pub uncut : is_recv_mac (operation (mirrored a.flags)) ≡ true → k.others ≡ []

-- ---- what the second end does

abbrev pub calling : {Edition : Type 0} → Flags → Bool → List ℕ → Act Edition
calling f more bs = ask (record { flags = f; more = more; bytes = bs })

-- one operation after another
abbrev pub mirroring : {Edition : Type 0} → List Joined → List (Cut Edition) → List (Act Edition)
mirroring [] ks = []
mirroring (a ∷ os) [] = []
mirroring (a ∷ os) (k ∷ ks) =
    map reload k.reloads
    ++ (calling (mirrored a.flags) false k.first ∷ (map (calling (mirrored a.flags) true) k.others ++ mirroring os ks))

-- the name is carried on in the given pieces
abbrev pub answering : {Edition : Type 0} → List (List ℕ) → List Joined → List (Cut Edition) → List (Act Edition)
answering pieces os ks = map (calling META_AD true) pieces ++ mirroring os ks

-- a MAC that was sent can be received
abbrev pub MacFits : Joined → Type 0
MacFits a = operation a.flags ≡ SendMac → length a.bytes ≤ mac_limit
