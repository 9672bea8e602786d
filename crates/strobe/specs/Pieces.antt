-- A call in pieces: docs/RULES.md, section 8. Each piece is a call; those after the first have `more` on; the first refusal ends it.
use Rattle.std.specs.Prelude.{Bool, true, cond, List, ◌++◌, ℕ, zero, suc, eqb, leb, length, take, drop}
use Rattle.strobe.specs.Answer.{refuses}
use Rattle.strobe.specs.Duplex.{Sponge}
use Rattle.strobe.specs.Strobe.{Strobe, Effect, call}
use Rattle.strobe.specs.declared.flags.Flags.{Flags}

-- what came of a piece, then of the pieces behind it; a refusal leaves the bytes behind it as they are
abbrev pub followed : Effect → List ℕ → Effect → Effect
followed first rest others =
    record {
      answer = cond (refuses first.answer) first.answer others.answer;
      strobe = cond (refuses first.answer) first.strobe others.strobe;
      lent = first.lent ++ cond (refuses first.answer) rest others.lent;
    }

-- the size of the pieces of n bytes: 0 is no cut
abbrev pub piece_size : ℕ → ℕ → ℕ
piece_size size n = cond (eqb size 0) n size

module _ (sp : Sponge) where
  -- pieces of `size` bytes, the last one shorter; an empty buffer is one empty piece. At most n pieces come before the last
  unfoldable pub in_pieces : ℕ → Strobe → Flags → Bool → ℕ → List ℕ → Effect
  in_pieces zero s f more size bs = call sp s f more bs
  in_pieces (suc n) s f more size bs =
      let first = call sp s f more (take size bs) in
      cond (leb (length bs) size) (call sp s f more bs)
      (followed first (drop size bs) (in_pieces n first.strobe f true size (drop size bs)))

  unfoldable pub call_in_pieces : Strobe → Flags → Bool → ℕ → List ℕ → Effect
  call_in_pieces s f more size bs = in_pieces (length bs) s f more (piece_size size (length bs)) bs
