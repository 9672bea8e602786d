-- A session that was saved and loaded again in edition 1, beside the session that was saved: what the calls on it come to. A load of that edition sets no
-- last operation (docs/FORMATS.md, section 1).
use Rattle.std.specs.Prelude.{true, false, not, cond, List, ◌≡◌, ℕ}
use Rattle.strobe.specs.Answer.{key_flag, no_operation, not_the_last, cut_mac}
use Rattle.strobe.specs.Duplex.{Sponge}
use Rattle.strobe.specs.Flags.{K, has, operation, known, is_recv_mac}
use Rattle.strobe.specs.Runs.{Call, effect, accepts, ran, struck, opens}
use Rattle.strobe.specs.Strobe.{Strobe}
use Rattle.strobe.specs.declared.flags.Flags.{Flags}
use Rattle.strobe.specs.declared.last.Last.TheVariants.{Nothing}

-- the session that such a load gives back
abbrev pub without_last : Strobe → Strobe
without_last s = record { duplex = s.duplex; direction = s.direction; last = Nothing }

-- what a call with `more` on gets from a well-formed session with no last operation; it is a refusal, whatever the flags
unfoldable pub waiting : Flags → ℕ
waiting f =
    cond (has f K) key_flag
    (cond (not (known (operation f))) no_operation
    (cond (is_recv_mac (operation f)) cut_mac
    not_the_last))

-- ---- s was saved, a load gave l, and on l the calls cs were made

module _ (sp : Sponge) (s l : Strobe) (cs : List Call) where
  -- the calls without those that were refused
  abbrev pub kept : List Call
  kept = struck sp l cs

  -- the loaded session after the calls
  abbrev pub loaded_after : Strobe
  loaded_after = ran sp l cs

  -- the session that was saved, had it made only the accepted calls
  abbrev pub saved_after : Strobe
  saved_after = ran sp s kept

  -- the next call, c, on the one and on the other
  pub record AfterLoad (c : Call) : Type 0 where
    -- while no operation was opened since the load, `more` has nothing to go on with and is refused
    pub waits : opens kept ≡ false → c.more ≡ true → (effect sp loaded_after c).answer ≡ waiting c.flags
    -- a call that comes to open the first operation gets the same answer from both
    pub first_answer : opens kept ≡ false → c.more ≡ false → (effect sp loaded_after c).answer ≡ (effect sp saved_after c).answer
    -- leaves the same lent bytes
    pub first_lent : opens kept ≡ false → c.more ≡ false → (effect sp loaded_after c).lent ≡ (effect sp saved_after c).lent
    -- and, unless it is refused, makes the two sessions one
    pub first_session : opens kept ≡ false → c.more ≡ false → accepts sp loaded_after c ≡ true
        → (effect sp loaded_after c).strobe ≡ (effect sp saved_after c).strobe
    -- once an operation was opened since the load, they are one
    pub same_session : opens kept ≡ true → loaded_after ≡ saved_after
    -- so that every call comes to the same on both
    pub same_effect : opens kept ≡ true → effect sp loaded_after c ≡ effect sp saved_after c
