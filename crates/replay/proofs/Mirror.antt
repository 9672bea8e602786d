-- One operation and its mirror, from one duplex and opposite directions, under any table of rules that has what `Rows` asks: the mirror leaves the same
-- duplex, gets the bytes that the table names, and is answered 0. Assumes nothing.
use Prim.Native.Nat.{ℕ}
use mathlib.Core.Path.{◌≡◌, refl, sym, ap, ap₂, ◌∙◌}
use mathlib.Core.List.{List}
use mathlib.Core.Bool.{Bool, true, false, not, cond}
use lib.ListN.{length}
use native.Mathlib.Omega.{arith}
use Rattle.strobe.proofs.Data.{out-kept}
use Rattle.strobe.specs.Duplex.{Sponge, Duplex, Rule, after, out, met, same}
use Rattle.strobe.specs.Flags.{operation, overwriting, copying}
use Rattle.strobe.specs.Strobe.{begin_op}
use Rattle.strobe.specs.declared.flags.Operation.TheVariants.{Ad, Ratchet, Key, Prf, SendClr, RecvClr, SendMac, RecvMac, SendEnc, RecvEnc, Unknown}
use Rattle.strobe.specs.declared.flags.Operation.{Operation}
use Rattle.replay.specs.History.{Joined}
use Rattle.replay.specs.Mirror.{Lends, Gets, Mirrors, Agrees, opposite}
use Rattle.replay.specs.Rules.{Request, ruled, End, opened_by, verdict_by, made_by, next_by}
use Rattle.replay.specs.Whole.{OneOfTwenty}
use Rattle.replay.proofs.Turned.{other, turned_operation, turned_directed, turned_begins}
use Rattle.replay.proofs.Undoing.{same_refl, same_equal, after_blind, out_blind, after_through, out_through, after-met, out-met}

accepted_same : (t : Bool) → ◌≡◌ {A = ℕ} (cond (not t) 9 0) 0 → t ≡ true
accepted_same true e = refl
accepted_same false e = absurd (omega arith)

-- f is the other end of e
pub record Faces (e f : End) : Type 0 where
  pub duplex : f.duplex ≡ e.duplex
  pub direction : f.direction ≡ opposite e.direction

-- ---- what a table of rules must have

-- lent what r gave back, r' leaves what r left, and gives back what r was lent
pub record Undoes (r r' : Rule) : Type 0 where
  pub state : (s c : ℕ) → r'.state s (r.buffer s c) ≡ r.state s c
  pub buffer : (s c : ℕ) → r'.buffer s (r.buffer s c) ≡ c

pub record Rows (table : Operation → Rule) : Type 0 where
  pub ad : (s c : ℕ) → (table Ad).buffer s c ≡ c
  pub key : (s c : ℕ) → (table Key).buffer s c ≡ c
  pub ratchet : (s c : ℕ) → (table Ratchet).buffer s c ≡ c
  pub ratchet_blind : (s b c : ℕ) → (table Ratchet).state s b ≡ (table Ratchet).state s c
  pub prf_blind : (s b c : ℕ) → (table Prf).state s b ≡ (table Prf).state s c
  pub prf_bytes : (s b c : ℕ) → (table Prf).buffer s b ≡ (table Prf).buffer s c
  pub send_clr : Undoes (table SendClr) (table RecvClr)
  pub recv_clr : Undoes (table RecvClr) (table SendClr)
  pub send_enc : Undoes (table SendEnc) (table RecvEnc)
  pub recv_enc : Undoes (table RecvEnc) (table SendEnc)
  pub send_mac : table SendMac ≡ copying
  pub recv_mac : table RecvMac ≡ overwriting

module _ (sp : Sponge) (table : Operation → Rule) (rows : Rows table) where
  -- ---- the bytes, row by row

  abbrev judged : Operation → Duplex → List ℕ → ℕ
  judged = verdict_by (ruled table) sp

  record Answered (o : Operation) (d : Duplex) (a b : Joined) : Type 0 where
    duplex : after sp (table (other o)) d b.bytes ≡ after sp (table o) d a.bytes
    gets : Gets o a b
    answer : judged (other o) d b.bytes ≡ 0

  module _ (d : Duplex) (a b : Joined) where
    keeps_bytes : (r : Rule) → ((s c : ℕ) → r.buffer s c ≡ c) → b.lent ≡ out sp r d b.bytes → b.lent ≡ b.bytes
    keeps_bytes r h gb = gb ∙ out-kept sp r d b.bytes h

    undone : (r r' : Rule) → Undoes r r' → a.lent ≡ out sp r d a.bytes → b.lent ≡ out sp r' d b.bytes → b.bytes ≡ a.lent
        → (after sp r' d b.bytes ≡ after sp r d a.bytes) × (b.lent ≡ a.bytes)
    undone r r' u ga gb le =
        let p : b.bytes ≡ out sp r d a.bytes = le ∙ ga in (
          ap (after sp r' d) p ∙ after_through sp r r' u.state d a.bytes,
          gb ∙ ap (out sp r' d) p
              ∙ out_through sp r r' u.state (λ s c. c) u.buffer d a.bytes
              ∙ out-kept sp (record { state = r.state; buffer = λ s c. c }) d a.bytes (λ s c. refl),
        )

    -- a MAC that was copied out of the state is the state's own
    own_mac : b.bytes ≡ out sp copying d a.bytes → met sp overwriting d b.bytes ≡ b.bytes
    own_mac p =
        ap (met sp overwriting d) p
        ∙ out_through sp copying (record { state = overwriting.state; buffer = λ s c. s }) (λ s c. refl) (λ s c. s) (λ s c. refl) d a.bytes
        ∙ sym p

    sent_mac : a.lent ≡ out sp copying d a.bytes → b.lent ≡ out sp overwriting d b.bytes → b.bytes ≡ a.lent
        → (after sp overwriting d b.bytes ≡ after sp copying d a.bytes) × (b.lent ≡ b.bytes)
        × (same (met sp overwriting d b.bytes) b.bytes ≡ true)
    sent_mac ga gb le =
        let p : b.bytes ≡ out sp copying d a.bytes = le ∙ ga in (
          ap (after sp overwriting d) p ∙ after_through sp copying overwriting (λ s c. refl) d a.bytes,
          keeps_bytes overwriting (λ s c. refl) gb,
          rw (own_mac p) (same_refl b.bytes),
        )

    received_mac : same (met sp overwriting d a.bytes) a.bytes ≡ true → b.lent ≡ out sp copying d b.bytes → length b.bytes ≡ length a.bytes
        → (after sp copying d b.bytes ≡ after sp overwriting d a.bytes) × (b.lent ≡ a.bytes)
    received_mac va gb le =
        let own : met sp overwriting d a.bytes ≡ a.bytes = same_equal _ a.bytes va in (
          after_blind sp copying (λ s x y. refl) d b.bytes a.bytes le ∙ after-met sp d a.bytes own,
          gb ∙ out_blind sp copying (λ s x y. refl) (λ s x y. refl) d b.bytes a.bytes le ∙ out-met sp d a.bytes own,
        )

    answered : (o : Operation) → a.lent ≡ out sp (table o) d a.bytes → judged o d a.bytes ≡ 0
        → b.lent ≡ out sp (table (other o)) d b.bytes → Lends o a b.bytes → Answered o d a b
    answered Ad ga va gb le = record { duplex = ap (after sp (table Ad) d) le; gets = keeps_bytes (table Ad) rows.ad gb; answer = refl }
    answered Key ga va gb le = record { duplex = ap (after sp (table Key) d) le; gets = keeps_bytes (table Key) rows.key gb; answer = refl }
    answered Ratchet ga va gb le =
        record {
          duplex = after_blind sp (table Ratchet) rows.ratchet_blind d b.bytes a.bytes le;
          gets = keeps_bytes (table Ratchet) rows.ratchet gb;
          answer = refl;
        }
    answered Prf ga va gb le =
        record {
          duplex = after_blind sp (table Prf) rows.prf_blind d b.bytes a.bytes le;
          gets = gb ∙ out_blind sp (table Prf) rows.prf_blind rows.prf_bytes d b.bytes a.bytes le ∙ sym ga;
          answer = refl;
        }
    answered SendClr ga va gb le =
        let u = undone (table SendClr) (table RecvClr) rows.send_clr ga gb le in record { duplex = u.0; gets = u.1; answer = refl }
    answered RecvClr ga va gb le =
        let u = undone (table RecvClr) (table SendClr) rows.recv_clr ga gb le in record { duplex = u.0; gets = u.1; answer = refl }
    answered SendEnc ga va gb le =
        let u = undone (table SendEnc) (table RecvEnc) rows.send_enc ga gb le in record { duplex = u.0; gets = u.1; answer = refl }
    answered RecvEnc ga va gb le =
        let u = undone (table RecvEnc) (table SendEnc) rows.recv_enc ga gb le in record { duplex = u.0; gets = u.1; answer = refl }
    answered SendMac ga va gb le =
        let u = sent_mac (rw rows.send_mac at ga) (rw rows.recv_mac at gb) le in
        record { duplex = rw (rows.send_mac, rows.recv_mac) u.0; gets = u.1; answer = rw (rows.recv_mac, u.2) }
    answered RecvMac ga va gb le =
        let u = received_mac (accepted_same _ (rw rows.recv_mac at va)) (rw rows.send_mac at gb) le in
        record { duplex = rw (rows.send_mac, rows.recv_mac) u.0; gets = u.1; answer = refl }
    answered Unknown ga va gb le = absurd le

  -- ---- the whole operation

  pub record Faced (e f : End) (q r : Request) : Type 0 where
    pub agrees : Agrees (made_by (ruled table) sp e q) (made_by (ruled table) sp f r)
    pub faces : Faces (next_by (ruled table) sp e q) (next_by (ruled table) sp f r)

  pub faced : (e f : End) (q r : Request) → Faces e f → OneOfTwenty q.flags
      → let a = made_by (ruled table) sp e q in
      let b = made_by (ruled table) sp f r in
      a.answer ≡ 0 → Mirrors a b → Faced e f q r
  unfolding begin_op
  faced e f q r fs k z m =
      let a = made_by (ruled table) sp e q in
      let b = made_by (ruled table) sp f r in
      let d = (opened_by (ruled table) sp e q.flags).duplex in
      let opens : (opened_by (ruled table) sp f r.flags).duplex ≡ d =
      rw (fs.duplex, fs.direction, m.flags) (turned_begins sp q.flags k e.direction e.duplex) in
      let op : operation r.flags ≡ other (operation q.flags) = ap operation m.flags ∙ turned_operation q.flags k in
      let w : Answered (operation q.flags) d a b =
      answered d a b (operation q.flags) refl z (ap₂ (λ (o : Operation) (x : Duplex). out sp (table o) x r.bytes) op opens) m.lends in
      record {
        agrees = record {
          answer = ap₂ (λ (o : Operation) (x : Duplex). judged o x r.bytes) op opens ∙ w.answer;
          gets = w.gets;
        };
        faces = record {
          duplex = ap₂ (λ (o : Operation) (x : Duplex). after sp (table o) x r.bytes) op opens ∙ w.duplex;
          direction = rw (fs.direction, m.flags) (turned_directed q.flags k e.direction);
        };
      }
