-- A call in pieces is the whole call, whenever the whole call is not too long and is no received MAC. Assumes nothing.
use Prim.Native.Nat.{ℕ, zero, suc, ◌≤◌, ◌<◌}
use mathlib.Core.Path.{◌≡◌, refl, ap, ◌∙◌}
use mathlib.Core.List.{List, ◌++◌}
use mathlib.Core.Bool.{Bool, true, false}
use lib.Dec.{leb}
use lib.ListN.{length, take, drop, length-take, length-drop, take-append-drop}
use borrow.Author.Tests.{leb-true, leb-false, ne_eqb}
use native.Mathlib.Omega.{arith}
use Rattle.strobe.specs.Answer.{too_long}
use Rattle.strobe.specs.Duplex.{Sponge}
use Rattle.strobe.specs.Flags.{operation, is_recv_mac, rule_of}
use Rattle.strobe.specs.Pieces.{followed, piece_size, in_pieces, call_in_pieces}
use Rattle.strobe.specs.Strobe.{Strobe, Effect, opened, refusal, verdict, worked, settled, call}
use Rattle.strobe.specs.declared.flags.Flags.{Flags}
use Rattle.strobe.proofs.Accepted.{passed_of, of_passed, refusal-refuses, fewer_same, call-done, opened_more, goes_on}
use Rattle.strobe.proofs.Cutting.{first_piece, last_piece}
use Rattle.strobe.proofs.Data.{after_append, out_append}

module _ (sp : Sponge) (f : Flags) (no-mac : is_recv_mac (operation f) ≡ false) where
  -- a session that is opened already takes its bytes in two
  work_cut : (s : Strobe) (xs ys : List ℕ)
      → let first = worked sp s (operation f) xs in
      followed first ys (worked sp first.strobe (operation f) ys) ≡ worked sp s (operation f) (xs ++ ys)
  unfolding worked verdict
  work_cut s xs ys =
      rw (no-mac, after_append sp (rule_of (operation f)) s.duplex xs ys, out_append sp (rule_of (operation f)) s.duplex xs ys)

  module _ (s : Strobe) (more : Bool) (size : ℕ) (bs : List ℕ) (fits : refusal sp.rate s f more (length bs) ≡ too_long → ⊥) where
    abbrev first : Effect
    first = call sp s f more (take size bs)

    same-refusal : refusal sp.rate s f more (length (take size bs)) ≡ refusal sp.rate s f more (length bs)
    same-refusal = fewer_same sp.rate s f more (length (take size bs)) (length bs) (rw (length-take size bs) (omega arith)) fits

    -- refused, the pieces behind the first are not looked at
    refused_cut : (r : ℕ) → refusal sp.rate s f more (length bs) ≡ suc r → (others : Effect)
        → followed first (drop size bs) others ≡ call sp s f more bs
    unfolding call settled
    refused_cut r e others =
        let e' = same-refusal ∙ e in
        rw (e', e, refusal-refuses sp.rate s f more (length bs) r e, take-append-drop size bs)

    -- done, the operation goes on
    done_on : refusal sp.rate s f more (length bs) ≡ 0 → refusal sp.rate first.strobe f true (length (drop size bs)) ≡ 0
    unfolding call settled
    done_on e =
        rw (same-refusal ∙ e)
        (of_passed sp.rate _ f true (length (drop size bs))
        (goes_on sp s f more (length bs) (length (drop size bs)) (take size bs) no-mac (passed_of sp.rate s f more (length bs) e)
        (rw (length-drop size bs) (omega arith))))

    done_cut : refusal sp.rate s f more (length bs) ≡ 0
        → followed first (drop size bs) (call sp first.strobe f true (drop size bs)) ≡ call sp s f more bs
    done_cut e =
        let o = opened sp s f more in
        let on : refusal sp.rate (worked sp o (operation f) (take size bs)).strobe f true (length (drop size bs)) ≡ 0 =
        rw (call-done sp s f more (take size bs) (same-refusal ∙ e)) at (done_on e) in
        rw (
          call-done sp s f more (take size bs) (same-refusal ∙ e),
          call-done sp (worked sp o (operation f) (take size bs)).strobe f true (drop size bs) on,
          opened_more sp (worked sp o (operation f) (take size bs)).strobe f,
          call-done sp s f more bs e,
        )
        (work_cut o (take size bs) (drop size bs) ∙ ap (worked sp o (operation f)) (take-append-drop size bs))

  cut_whole : (n : ℕ) (s : Strobe) (more : Bool) (size : ℕ) (bs : List ℕ) → (refusal sp.rate s f more (length bs) ≡ too_long → ⊥)
      → in_pieces sp n s f more size bs ≡ call sp s f more bs
  unfolding in_pieces
  cut_whole zero s more size bs fits = refl
  cut_whole (suc n) s more size bs fits =
      go (leb (length bs) size) refl (refusal sp.rate s f more (length bs)) refl
      (λ fits'. cut_whole n (call sp s f more (take size bs)).strobe true size (drop size bs) fits')
    where
      rest : Effect
      rest = in_pieces sp n (call sp s f more (take size bs)).strobe f true size (drop size bs)

      go : (t : Bool) → leb (length bs) size ≡ t → (r : ℕ) → refusal sp.rate s f more (length bs) ≡ r
          → ((refusal sp.rate (call sp s f more (take size bs)).strobe f true (length (drop size bs)) ≡ too_long → ⊥)
          → rest ≡ call sp (call sp s f more (take size bs)).strobe f true (drop size bs))
          → in_pieces sp (suc n) s f more size bs ≡ call sp s f more bs
      go true e r er ih = last_piece sp f size (suc n) s more bs (leb-true _ _ e)
      go false e (suc r) er ih = first_piece sp f size n s more bs (leb-false _ _ e) ∙ refused_cut s more size bs fits r er rest
      go false e zero er ih =
          first_piece sp f size n s more bs (leb-false _ _ e)
          ∙ ap (followed (call sp s f more (take size bs)) (drop size bs)) (ih (λ five. let on = done_on s more size bs fits er in absurd (omega arith)))
          ∙ done_cut s more size bs fits er

-- the theorem
pub pieces_whole : (sp : Sponge) (s : Strobe) (f : Flags) (more : Bool) (size : ℕ) (bs : List ℕ)
    → is_recv_mac (operation f) ≡ false → ((call sp s f more bs).answer ≡ too_long → ⊥)
    → call_in_pieces sp s f more size bs ≡ call sp s f more bs
unfolding call_in_pieces call settled
pieces_whole sp s f more size bs no-mac fits =
    cut_whole sp f no-mac (length bs) s more (piece_size size (length bs)) bs (λ e. fits (rw e))

-- ---- beyond the limit of one call

-- where one piece passes the tests, all pieces together are the operation's work on all bytes, however many they are
module _ (sp : Sponge) (f : Flags) (no-mac : is_recv_mac (operation f) ≡ false) (size : ℕ) (some : 0 < size) where
  shorter_passes : (s : Strobe) (more : Bool) (n : ℕ) → n ≤ size → refusal sp.rate s f more size ≡ 0 → refusal sp.rate s f more n ≡ 0
  shorter_passes s more n h e = fewer_same sp.rate s f more n size h (λ five. omega arith) ∙ e

  cut_work : (n : ℕ) (s : Strobe) (more : Bool) (bs : List ℕ) → length bs ≤ n → refusal sp.rate s f more size ≡ 0
      → in_pieces sp n s f more size bs ≡ worked sp (opened sp s f more) (operation f) bs
  cut_work zero s more bs h e =
      last_piece sp f size 0 s more bs (omega arith) ∙ call-done sp s f more bs (shorter_passes s more (length bs) (omega arith) e)
  cut_work (suc n) s more bs h e =
      go (leb (length bs) size) refl (λ k. cut_work n first' true (drop size bs) (rw (length-drop size bs) (omega arith)) next)
    where
      o : Strobe
      o = opened sp s f more

      first' : Strobe
      first' = (worked sp o (operation f) (take size bs)).strobe

      next : refusal sp.rate first' f true size ≡ 0
      next =
          of_passed sp.rate first' f true size
          (goes_on sp s f more size size (take size bs) no-mac (passed_of sp.rate s f more size e) (omega arith))

      go : (t : Bool) → leb (length bs) size ≡ t
          → (size < length bs → in_pieces sp n first' f true size (drop size bs) ≡ worked sp (opened sp first' f true) (operation f) (drop size bs))
          → in_pieces sp (suc n) s f more size bs ≡ worked sp o (operation f) bs
      go true t ih =
          let l : length bs ≤ size = leb-true _ _ t in
          last_piece sp f size (suc n) s more bs l ∙ call-done sp s f more bs (shorter_passes s more (length bs) l e)
      go false t ih =
          let l : size < length bs = leb-false _ _ t in
          let one = call-done sp s f more (take size bs) (shorter_passes s more (length (take size bs)) (rw (length-take size bs) (omega arith)) e) in
          first_piece sp f size n s more bs l
          ∙ rw (one, ih l, opened_more sp first' f) (work_cut sp f no-mac o (take size bs) (drop size bs) ∙ ap (worked sp o (operation f)) (take-append-drop size bs))

pub pieces_work : (sp : Sponge) (s : Strobe) (f : Flags) (more : Bool) (size : ℕ) (bs : List ℕ)
    → is_recv_mac (operation f) ≡ false → 0 < size → refusal sp.rate s f more size ≡ 0
    → call_in_pieces sp s f more size bs ≡ worked sp (opened sp s f more) (operation f) bs
unfolding call_in_pieces
pieces_work sp s f more size bs no-mac some e =
    rw (ne_eqb size 0 (λ z. omega arith)) (cut_work sp f no-mac size some (length bs) s more bs (omega arith) e)
