-- The limits of one call, docs/RULES.md, section 10: one table, and one statement about a row of it, over any sponge and any session.
use Rattle.std.specs.Prelude.{true, false, cond, List, [], ◌∷◌, ◌≡◌, ℕ, length}
use Rattle.strobe.specs.Answer.{done, too_long, mac_unequal}
use Rattle.strobe.specs.Duplex.{Sponge, met, same}
use Rattle.strobe.specs.Flags.{RATCHET, RECV_MAC, META_RATCHET, META_RECV_MAC, operation, rule_of}
use Rattle.strobe.specs.Strobe.{Strobe, opened, well_formed, call}
use Rattle.strobe.specs.declared.flags.Flags.{Flags}

-- what becomes of a call: answer 0; answer 0 or 9, as the MAC is; answer 5
pub data Fate : Type 0 where
  is_done : Fate
  is_tested : Fate
  is_too_long : Fate

-- a call with these flags and this number of bytes
pub record Limit : Type 0 where
  pub flags : Flags
  pub bytes : ℕ
  pub fate : Fate

abbrev pub limit : Flags → ℕ → Fate → Limit
limit f n e = record { flags = f; bytes = n; fate = e }

unfoldable pub limits : List Limit
limits =
    limit RATCHET 65536 is_done
    ∷ limit RATCHET 65537 is_too_long
    ∷ limit RECV_MAC 64 is_tested
    ∷ limit RECV_MAC 65 is_too_long
    ∷ limit META_RATCHET 65536 is_done
    ∷ limit META_RATCHET 65537 is_too_long
    ∷ limit META_RECV_MAC 64 is_tested
    ∷ limit META_RECV_MAC 65 is_too_long
    ∷ []

-- a MAC is accepted when every state byte that it meets in the opened session equals its byte
abbrev pub expected : Sponge → Strobe → Flags → List ℕ → Fate → ℕ
expected sp s f bs is_done = done
expected sp s f bs is_tested = cond (same (met sp (rule_of (operation f)) (opened sp s f false).duplex bs) bs) done mac_unequal
expected sp s f bs is_too_long = too_long

-- on every well formed session, with `more` off, for every data of the row's length
abbrev pub Kept : Sponge → Limit → Type 0
Kept sp c =
    (s : Strobe) (bs : List ℕ) → well_formed sp.rate s ≡ true → length bs ≡ c.bytes
    → (call sp s c.flags false bs).answer ≡ expected sp s c.flags bs c.fate
