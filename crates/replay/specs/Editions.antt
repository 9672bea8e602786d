-- A save and a load over Keccak-f[1600], as replay takes them: by edition of the saved form (docs/FORMATS.md, section 1).
use Rattle.std.specs.Prelude.{Bool, true, false}
use Rattle.saved.specs.Saved.{Edition, edition1, edition2, form, loaded}
use Rattle.strobe.specs.Session.{seen, held}
use Rattle.strobe.specs.Strobe.{Strobe}
use Rattle.strobe.specs.declared.level.Level.{Level}

-- what a load makes of a session's form
unfoldable pub reloaded : Level → Edition → Strobe → Strobe
reloaded l e s = seen (loaded (form e (held l s))).session

-- the editions that hold the last operation, and so lose nothing of a session
abbrev pub holds_last : Edition → Bool
holds_last edition1 = false
holds_last edition2 = true
