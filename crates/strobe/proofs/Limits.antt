-- The limits of one call are exact, over any sponge and any well formed session: the count is compared, and no list so long is made. Assumes nothing.
use Prim.Native.Nat.{ℕ}
use mathlib.Core.Path.{◌≡◌, refl, ◌∙◌}
use mathlib.Core.List.{List, [], ◌∷◌, map}
use mathlib.Core.Bool.{Bool, true, false, not, cond, ◌&&◌}
use lib.ListN.{length}
use Rattle.strobe.specs.Answer.{done, too_long, mac_unequal}
use Rattle.strobe.specs.Duplex.{Sponge, met, same}
use Rattle.strobe.specs.Every.{Every}
use Rattle.strobe.specs.Flags.{K, has, operation_of, operation, known, is_recv_mac, over_limit, rule_of}
use Rattle.strobe.specs.Limits.{Fate, is_done, is_tested, is_too_long, Limit, limits, expected, Kept}
use Rattle.strobe.specs.Strobe.{Strobe, opened, well_formed, refusal, verdict, worked, settled, call}
use Rattle.strobe.specs.declared.flags.Flags.{Flags}
use Rattle.strobe.specs.declared.flags.Operation.{Operation}

-- what becomes of n bytes
abbrev fate_of : Operation → ℕ → Fate
fate_of o n = cond (over_limit o n) is_too_long (cond (is_recv_mac o) is_tested is_done)

module _ (sp : Sponge) (s : Strobe) (f : Flags) (bs : List ℕ) where
  verdict-expected : verdict sp (operation f) (opened sp s f false).duplex bs ≡ expected sp s f bs (cond (is_recv_mac (operation f)) is_tested is_done)
  unfolding verdict
  verdict-expected = go (is_recv_mac (operation f))
    where
      accepted : Bool
      accepted = same (met sp (rule_of (operation f)) (opened sp s f false).duplex bs) bs

      swap : (t : Bool) → cond (not t) mac_unequal done ≡ cond t done mac_unequal
      swap true = refl
      swap false = refl

      go : (mac : Bool) → cond (mac && not accepted) mac_unequal done ≡ expected sp s f bs (cond mac is_tested is_done)
      go true = swap accepted
      go false = refl

  -- of a whole call of one of the twenty
  answer_expected : has f K ≡ false → known (operation f) ≡ true → well_formed sp.rate s ≡ true
      → (call sp s f false bs).answer ≡ expected sp s f bs (fate_of (operation f) (length bs))
  unfolding call refusal settled worked
  answer_expected k o w = rw (w, k, o) (go (over_limit (operation f) (length bs)))
    where
      go : (t : Bool) → (settled sp (cond t too_long done) s f false bs).answer ≡ expected sp s f bs (cond t is_too_long (cond (is_recv_mac (operation f)) is_tested is_done))
      go true = refl
      go false = verdict-expected

-- ---- the table

rows_kept : (sp : Sponge) (rows : List Limit) → map (λ (c : Limit). has c.flags K) rows ≡ map (λ (c : Limit). false) rows
    → map (λ (c : Limit). known (operation c.flags)) rows ≡ map (λ (c : Limit). true) rows
    → map (λ (c : Limit). fate_of (operation c.flags) c.bytes) rows ≡ map (λ (c : Limit). c.fate) rows → Every (Kept sp) rows
rows_kept sp [] k o e = tt
rows_kept sp (c ∷ cs) k o e =
    let here : fate_of (operation c.flags) c.bytes ≡ c.fate = cc in
    (λ s bs w l. answer_expected sp s c.flags bs (cc) (cc) w ∙ rw (l, here), rows_kept sp cs (cc) (cc) (cc))

pub limits-kept : (sp : Sponge) → Every (Kept sp) limits
unfolding limits operation operation_of
limits-kept sp = rows_kept sp limits refl refl refl
