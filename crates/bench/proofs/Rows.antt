-- A row of the session bench, over the flags of its operation: where its loop starts, one turn more, and the row once the turns are done.
-- Assumes nothing.
use mathlib.Core.Bool.{false}
use mathlib.Core.List.{List}
use mathlib.Core.Path.{◌≡◌, refl, subst}
use Prim.Native.Nat.{ℕ, ◌+◌}
use native.Mathlib.Numerals.{add-one}
use Rattle.bench.specs.Rows.{name, called, turns, Row}
use Rattle.strobe.specs.Flags.{PRF}
use Rattle.strobe.specs.Session.{held, fresh_at, Is, Comes, Calls}
use Rattle.strobe.specs.declared.flags.Flags.{Flags}
use Rattle.strobe.specs.declared.level.Level.TheVariants.{B128}
use Rattle.strobe.specs.declared.session.Outcome.{Outcome}
use Rattle.strobe.specs.declared.session.Session.{Session}

-- the session and the buffer are those behind n turns
pub record Turned (f : Flags) (buf : List ℕ) (n : ℕ) (s : Session) (buf' : List ℕ) : Type 0 where
  pub session : s ≡ held B128 (turns f n buf).strobe
  pub lent : buf' ≡ (turns f n buf).lent

module _ (f : Flags) (buf : List ℕ) where
  pub fresh_turned : {r : Outcome} → Is (fresh_at B128 name) r → Turned f buf 0 r.session buf
  unfolding turns
  fresh_turned is = record { session = is.session; lent = refl }

  -- a call of that session is a call of what the turns leave
  called-behind : (g : Flags) (bs : List ℕ) {n : ℕ} {s : Session} {buf' bs' : List ℕ} {r : Outcome}
      → Turned f buf n s buf' → Calls s g false bs r bs' → Comes B128 (called g (turns f n buf).strobe bs) r bs'
  called-behind g bs {bs' = bs'} {r = r} t c = subst (λ (s : Session). Calls s g false bs r bs') t.session c

  pub turned_once_more : (n : ℕ) {s : Session} {bs bs' : List ℕ} {r : Outcome}
      → Turned f buf n s bs → Calls s f false bs r bs' → Turned f buf (n + 1) r.session bs'
  unfolding turns
  turned_once_more n {bs = bs} t c =
      let turn = rw t.lent at (called-behind f bs t c) in
      rw add-one (record { session = turn.outcome.session; lent = turn.lent })

  pub row_of_turns : (out : List ℕ) {n times : ℕ} {s : Session} {buf' out' : List ℕ} {r : Outcome}
      → n ≡ times → Turned f buf n s buf' → Calls s PRF false out r out' → Row f times buf out buf' out'
  row_of_turns out e t c = rw (← e) (record { lent = t.lent; last = (called-behind PRF out t c).lent })
