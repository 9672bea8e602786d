-- Replay of STROBE itself: Keccak-f[1600] as FIPS 202 defines it, either level, saved and loaded anywhere. Assumes nothing.
use Prim.Native.Nat.{ℕ, ◌<◌}
use mathlib.Core.Path.{◌≡◌, refl, sym, ap, subst}
use mathlib.Core.Bool.{true, cond}
use mathlib.Core.List.{List, [], ◌∷◌, ◌++◌, flatten}
use native.Mathlib.Omega.{arith}
use Rattle.fips202.proofs.Permutation.{keccak_f1600-length}
use Rattle.laws.proofs.Bools.{true_not_false}
use Rattle.saved.proofs.RoundTrip.{load_of_form}
use Rattle.saved.specs.Saved.{Edition, edition1, edition2, kept_by}
use Rattle.strobe.specs.Every.{Every}
use Rattle.strobe.specs.Flags.{META_AD}
use Rattle.strobe.specs.Session.{rate_of, sponge_of, seen, held, Given}
use Rattle.strobe.specs.Strobe.{Strobe, unnamed, fresh}
use Rattle.strobe.specs.declared.level.Level.TheVariants.{B128, B256}
use Rattle.strobe.specs.declared.level.Level.{Level}
use Rattle.replay.specs.Alike.{Alike, Same}
use Rattle.replay.specs.Cuts.{Cut, Cuts, answering, MacFits}
use Rattle.replay.specs.Each.{Each}
use Rattle.replay.specs.Editions.{reloaded, holds_last}
use Rattle.replay.specs.History.{Act, ask, reload, Entry, ends, log, struck, Joined, operations}
use Rattle.replay.specs.LeftOut.{without_reloads}
use Rattle.replay.specs.Mirror.{Mirrors}
use Rattle.replay.specs.Reload.{Keeps, KeepsAll}
use Rattle.replay.specs.Replay.{NoneRejected, NoneRefused, Replayed}
use Rattle.replay.specs.Strike.{without_refused}
use Rattle.replay.specs.Usable.{Sound, Usable}
use Rattle.replay.specs.Whole.{OneOfTwenty, Course}
use Rattle.replay.proofs.Course.{course}
use Rattle.replay.proofs.Cuts.{any_cut}
use Rattle.replay.proofs.Cutting.{cut_anywhere}
use Rattle.replay.proofs.LeftOut.{reload_anywhere}
use Rattle.replay.proofs.Possible.{mirror_exists, replay_exists}
use Rattle.replay.proofs.Replay.{replay}
use Rattle.replay.proofs.Strike.{refused_change_nothing}
use Rattle.replay.proofs.Usable.{fresh_usable}

rate_positive : (l : Level) → 0 < rate_of l
rate_positive B128 = omega arith
rate_positive B256 = omega arith

pub sound : (l : Level) → Sound (sponge_of l)
sound l = record { keeps = λ st e. keccak_f1600-length st; rated = rate_positive l; roomy = omega arith }

-- edition 1 loses the last operation, edition 2 nothing
pub reloaded_is : (l : Level) (e : Edition) (s : Strobe) → Usable (sponge_of l) s → reloaded l e s ≡ seen (kept_by e (held l s))
unfolding reloaded
reloaded_is l e s u = ap (λ (g : Given). seen g.session) (load_of_form e (held l s) u.sized u.well)

pub reload_keeps : (l : Level) (e : Edition) → Keeps (sponge_of l) (reloaded l e)
reload_keeps l edition1 s u = rw (reloaded_is l edition1 s u) (record { duplex = refl; direction = refl; last = λ f e. absurd (true_not_false e refl) })
reload_keeps l edition2 s u = rw (reloaded_is l edition2 s u) (record { duplex = refl; direction = refl; last = λ f e. e })

pub reload_keeps_all : (l : Level) (e : Edition) → holds_last e ≡ true → KeepsAll (sponge_of l) (reloaded l e)
reload_keeps_all l edition1 h s u = absurd (true_not_false h refl)
reload_keeps_all l edition2 h s u = reloaded_is l edition2 s u

-- a reload of edition 2 is left out wherever it stands
left_out_between : (a b : List (Act Edition)) → without_reloads holds_last (a ++ reload edition2 ∷ b) ≡ without_reloads holds_last (a ++ b)
unfolding without_reloads
left_out_between [] b = refl
left_out_between (ask c ∷ a) b = ap (λ (acts : List (Act Edition)). ask c ∷ acts) (left_out_between a b)
left_out_between (reload e ∷ a) b = ap (λ (acts : List (Act Edition)). cond (holds_last e) acts (reload e ∷ acts)) (left_out_between a b)

module _ (l : Level) (name : List ℕ) where
  abbrev pub log_of : List (Act Edition) → List Entry
  log_of acts = log (sponge_of l) (reloaded l) (fresh (sponge_of l) name) acts

  abbrev pub end_of : List (Act Edition) → Strobe
  end_of acts = ends (sponge_of l) (reloaded l) (fresh (sponge_of l) name) acts

  pub strobe_course : (a : List (Act Edition)) → Course (sponge_of l) (unnamed (sponge_of l)) (operations name (log_of a)) (end_of a)
  strobe_course = course (sponge_of l) (sound l) (reloaded l) (reload_keeps l) name

  pub strobe_replay : (a b : List (Act Edition)) → NoneRejected (log_of a) → Each Mirrors (operations name (log_of a)) (operations name (log_of b))
      → Replayed (sponge_of l) name (log_of a) (log_of b) (end_of a) (end_of b)
  strobe_replay = replay (sponge_of l) (sound l) (reloaded l) (reload_keeps l) name

  -- ---- what stands beside it

  pub strobe_cut_anywhere : (a b : List (Act Edition)) → Each Alike (operations name (log_of a)) (operations name (log_of b))
      → Same (operations name (log_of a)) (operations name (log_of b)) (end_of a) (end_of b)
  strobe_cut_anywhere = cut_anywhere (sponge_of l) (sound l) (reloaded l) (reload_keeps l) name

  pub strobe_refused_change_nothing : (a : List (Act Edition))
      → let kept = without_refused (sponge_of l) (reloaded l) (fresh (sponge_of l) name) a in
      (log_of kept ≡ struck (log_of a)) × (end_of kept ≡ end_of a)
  strobe_refused_change_nothing a = refused_change_nothing (sponge_of l) (reloaded l) a (fresh (sponge_of l) name)

  -- two runs that differ only in reloads of edition 2
  pub strobe_reload_anywhere : (a b : List (Act Edition)) → without_reloads holds_last a ≡ without_reloads holds_last b
      → (log_of a ≡ log_of b) × (end_of a ≡ end_of b)
  strobe_reload_anywhere a b =
      reload_anywhere (sponge_of l) (sound l) (reloaded l) (reload_keeps l) holds_last (reload_keeps_all l) a b (fresh (sponge_of l) name)
      (fresh_usable (sponge_of l) (sound l) name)

  -- one reload of edition 2, with any acts before it and behind it
  pub strobe_reload_between : (a b : List (Act Edition))
      → (log_of (a ++ reload edition2 ∷ b) ≡ log_of (a ++ b)) × (end_of (a ++ reload edition2 ∷ b) ≡ end_of (a ++ b))
  strobe_reload_between a b = strobe_reload_anywhere (a ++ reload edition2 ∷ b) (a ++ b) (left_out_between a b)

  -- b is a cut, with reloads of edition 2 anywhere in it, also between two pieces
  pub strobe_any_cut : (first : Joined) (pieces : List (List ℕ)) (os : List Joined) (ks : List (Cut Edition)) (b : List (Act Edition))
      → first.flags ≡ META_AD → first.bytes ≡ name ++ flatten pieces → Every (λ (o : Joined). OneOfTwenty o.flags) os → Each Cuts os ks
      → without_reloads holds_last b ≡ without_reloads holds_last (answering pieces os ks)
      → NoneRefused (log_of b) × Each Mirrors (first ∷ os) (operations name (log_of b))
  strobe_any_cut first pieces os ks b f w k c h =
      subst (λ (es : List Entry). NoneRefused es × Each Mirrors (first ∷ os) (operations name es))
      (sym (strobe_reload_anywhere b (answering pieces os ks) h).0)
      (any_cut (sponge_of l) (sound l) (reloaded l) (reload_keeps l) name first pieces os ks f w k c)

  pub strobe_mirror_exists : (a : List (Act Edition)) → Every MacFits (operations name (log_of a))
      → (b : List (Act Edition)) × (NoneRefused (log_of b) × Each Mirrors (operations name (log_of a)) (operations name (log_of b)))
  strobe_mirror_exists = mirror_exists (sponge_of l) (sound l) (reloaded l) (reload_keeps l) name

  pub strobe_replay_exists : (a : List (Act Edition)) → NoneRejected (log_of a) → Every MacFits (operations name (log_of a))
      → (b : List (Act Edition)) × (NoneRefused (log_of b) × Each Mirrors (operations name (log_of a)) (operations name (log_of b))
      × Replayed (sponge_of l) name (log_of a) (log_of b) (end_of a) (end_of b))
  strobe_replay_exists = replay_exists (sponge_of l) (sound l) (reloaded l) (reload_keeps l) name
