-- Each of five mistakes in STROBE's rules breaks replay, at operations that are computed here; a frozen prf and a copying cipher keep to it, and are found by the
-- definition's bytes. Assumes nothing.
use Prim.Native.Nat.{ℕ}
use mathlib.Core.Path.{◌≡◌, refl, ap}
use mathlib.Core.List.{List, [], ◌∷◌}
use lib.ListN.{get_or}
use native.Mathlib.Omega.{arith}
use Rattle.strobe.specs.Duplex.{Sponge, Duplex, mix, padded, close_if_full, step, after, out}
use Rattle.strobe.specs.Flags.{META_AD, rule_of, PRF, SEND_CLR, RECV_CLR, SEND_MAC, RECV_MAC, SEND_ENC, RECV_ENC, operation_of, operation}
use Rattle.strobe.specs.Strobe.{unnamed, seed, mixed, forced, begin_op, opened, worked}
use Rattle.strobe.specs.declared.flags.Flags.{Flags}
use Rattle.replay.specs.Mirror.{Mirrors, Agrees}
use Rattle.replay.specs.Mistakes.{plaintext_kept, prf_xored, mac_absorbed, mixed_as_called, directed_by_all, prf_frozen, cipher_copies, MeetsDefinition}
use Rattle.replay.specs.Rules.{Rules, ruled, Request, end_of, made_by, next_by, made, end_after, Replays}
use Rattle.replay.specs.Replay.{OperationsDone}
use Rattle.replay.specs.Usable.{Sound}
use Rattle.replay.specs.Whole.{OneOfTwenty}
use Rattle.replay.proofs.Tables.{rows_replay, strobe_is, strobe_rows}

-- ---- a sponge to compute with: eighteen state bytes, a rate of sixteen, and a permutation that changes nothing

abbrev small : Sponge
small = record { perm = λ st. st; rate = 16; size = 18 }

small_sound : Sound small
small_sound = record { keeps = λ st e. e; rated = omega arith; roomy = omega arith }

abbrev request : Flags → List ℕ → Request
request f bs = record { flags = f; bytes = bs }

-- of the empty name
abbrev naming : Request
naming = request META_AD []

-- ---- the five

-- what replay says of one operation behind the name
one_operation : (v : Rules) (q r : Request) → Replays v → let e = end_of (unnamed small) in let e' = next_by v small e naming in
    OneOfTwenty q.flags → OperationsDone (made v small e (naming ∷ q ∷ [])) → Mirrors (made_by v small e' q) (made_by v small e' r)
    → Agrees (made_by v small e' q) (made_by v small e' r) × ((next_by v small e' r).duplex ≡ (next_by v small e' q).duplex)
unfolding made end_after operation operation_of
one_operation v q r h k z m =
    let w = h small small_sound (naming ∷ q ∷ []) (naming ∷ r ∷ []) (refl, (k, tt)) z (record { flags = refl; lends = refl }, (m, tt)) in
    (w.0.1.0, w.1)

pub plaintext_kept_breaks : Replays plaintext_kept → ⊥
unfolding made end_after unnamed seed operation operation_of mixed forced after out step close_if_full padded mix
plaintext_kept_breaks h =
    let r = one_operation plaintext_kept (request SEND_ENC (1 ∷ [])) (request RECV_ENC (0 ∷ [])) h refl (refl, (refl, tt)) (record { flags = refl; lends = refl }) in
    let e : ◌≡◌ {A = ℕ} 1 0 = ap (λ (d : Duplex). get_or d.st 0 0) r.1 in
    omega arith

pub prf_xored_breaks : Replays prf_xored → ⊥
unfolding made end_after unnamed seed operation operation_of mixed forced after out step close_if_full padded mix
prf_xored_breaks h =
    let r = one_operation prf_xored (request PRF (1 ∷ [])) (request PRF (0 ∷ [])) h refl (refl, (refl, tt)) (record { flags = refl; lends = refl }) in
    let e : ◌≡◌ {A = ℕ} 1 0 = ap (λ (bs : List ℕ). get_or bs 0 0) r.0.gets in
    omega arith

pub mac_absorbed_breaks : Replays mac_absorbed → ⊥
unfolding made end_after unnamed seed operation operation_of mixed forced after out step close_if_full padded mix
mac_absorbed_breaks h =
    let r = one_operation mac_absorbed (request SEND_MAC (0 ∷ [])) (request RECV_MAC (1 ∷ [])) h refl (refl, (refl, tt)) (record { flags = refl; lends = refl }) in
    let e : ◌≡◌ {A = ℕ} 0 1 = ap (λ (d : Duplex). get_or d.st 0 0) r.1 in
    omega arith

pub mixed_as_called_breaks : Replays mixed_as_called → ⊥
unfolding made end_after unnamed seed operation operation_of mixed forced after out step close_if_full padded mix
mixed_as_called_breaks h =
    let r = one_operation mixed_as_called (request SEND_CLR []) (request RECV_CLR []) h refl (refl, (refl, tt)) (record { flags = refl; lends = refl }) in
    let e : ◌≡◌ {A = ℕ} 11 10 = ap (λ (d : Duplex). get_or d.st 3 0) r.1 in
    omega arith

pub directed_by_all_breaks : Replays directed_by_all → ⊥
unfolding made end_after unnamed seed operation operation_of mixed forced after out step close_if_full padded mix
directed_by_all_breaks h =
    let r = one_operation directed_by_all (request SEND_CLR []) (request RECV_CLR []) h refl (refl, (refl, tt)) (record { flags = refl; lends = refl }) in
    let e : ◌≡◌ {A = ℕ} 11 10 = ap (λ (d : Duplex). get_or d.st 3 0) r.1 in
    omega arith

-- ---- the two: they keep to replay, and their bytes are not the definition's

-- STROBE's own table meets it
pub strobe_meets : MeetsDefinition rule_of
strobe_meets sp sound = strobe_is sp

pub prf_frozen_wrong : MeetsDefinition prf_frozen → ⊥
unfolding worked opened begin_op unnamed seed operation operation_of mixed forced after out step close_if_full padded mix
prf_frozen_wrong h =
    let e : ◌≡◌ {A = ℕ} 0 1 = ap (λ (bs : List ℕ). get_or bs 0 0) (h small small_sound (unnamed small) (request PRF (1 ∷ [])) refl).lent in
    omega arith

pub prf_frozen_replays : Replays (ruled prf_frozen)
prf_frozen_replays =
    rows_replay prf_frozen
    (record {
      ad = strobe_rows.ad;
      key = strobe_rows.key;
      ratchet = strobe_rows.ratchet;
      ratchet_blind = strobe_rows.ratchet_blind;
      prf_blind = strobe_rows.prf_blind;
      prf_bytes = λ s b c. refl;
      send_clr = strobe_rows.send_clr;
      recv_clr = strobe_rows.recv_clr;
      send_enc = strobe_rows.send_enc;
      recv_enc = strobe_rows.recv_enc;
      send_mac = strobe_rows.send_mac;
      recv_mac = strobe_rows.recv_mac;
    })

pub cipher_copies_wrong : MeetsDefinition cipher_copies → ⊥
unfolding worked opened begin_op unnamed seed operation operation_of mixed forced after out step close_if_full padded mix
cipher_copies_wrong h =
    let e : ◌≡◌ {A = ℕ} 1 0 = ap (λ (bs : List ℕ). get_or bs 0 0) (h small small_sound (unnamed small) (request SEND_ENC (1 ∷ [])) refl).lent in
    omega arith

pub cipher_copies_replays : Replays (ruled cipher_copies)
cipher_copies_replays =
    rows_replay cipher_copies
    (record {
      ad = strobe_rows.ad;
      key = strobe_rows.key;
      ratchet = strobe_rows.ratchet;
      ratchet_blind = strobe_rows.ratchet_blind;
      prf_blind = strobe_rows.prf_blind;
      prf_bytes = strobe_rows.prf_bytes;
      send_clr = strobe_rows.send_clr;
      recv_clr = strobe_rows.recv_clr;
      send_enc = record { state = λ s c. refl; buffer = λ s c. refl };
      recv_enc = record { state = λ s c. refl; buffer = λ s c. refl };
      send_mac = strobe_rows.send_mac;
      recv_mac = strobe_rows.recv_mac;
    })
