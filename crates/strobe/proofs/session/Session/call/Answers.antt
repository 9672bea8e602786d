-- `call`, by what handles the operation. Assumes nothing.
use mathlib.Core.Path.{refl, sym, ap, ◌∙◌}
use mathlib.Core.Logic.{inl, inr}
use Rattle.strobe.specs.Answer.{number}
use Rattle.strobe.specs.declared.flags.Operation.TheVariants.{Ad, Ratchet, Key, Prf, SendClr, RecvClr, SendMac, RecvMac, SendEnc, RecvEnc}
use Rattle.strobe.proofs.Calls.{refused, unknown_refused, ratchet_any}
use Rattle.strobe.proofs.Twenty.{handled_as}
use Rattle.strobe.proofs.session.Session.call.Goals as goal

pub operate_no_mutate-requires : goal.operate_no_mutate-requires
operate_no_mutate-requires c =
    elim c.in-Ad.is [
      | inl e ↦ handled_as c.args.flags Ad (sym c.operation.ensures ∙ e) refl
      | inr (inl e) ↦ handled_as c.args.flags Key (sym c.operation.ensures ∙ e) refl
      | inr (inr (inl e)) ↦ handled_as c.args.flags SendClr (sym c.operation.ensures ∙ e) refl
      | inr (inr (inr e)) ↦ handled_as c.args.flags RecvClr (sym c.operation.ensures ∙ e) refl
    ]

pub operate-requires : goal.operate-requires
operate-requires c =
    elim c.in-Prf.is [
      | inl e ↦ handled_as c.args.flags Prf (sym c.operation.ensures ∙ e) refl
      | inr (inl e) ↦ handled_as c.args.flags SendMac (sym c.operation.ensures ∙ e) refl
      | inr (inr (inl e)) ↦ handled_as c.args.flags SendEnc (sym c.operation.ensures ∙ e) refl
      | inr (inr (inr e)) ↦ handled_as c.args.flags RecvEnc (sym c.operation.ensures ∙ e) refl
    ]

pub generalized_recv_mac-requires : goal.generalized_recv_mac-requires
generalized_recv_mac-requires c = handled_as c.args.flags RecvMac (sym c.operation.ensures ∙ c.in-RecvMac.is) refl

pub generalized_ratchet-requires : goal.generalized_ratchet-requires
generalized_ratchet-requires c = handled_as c.args.flags Ratchet (sym c.operation.ensures ∙ c.in-Ratchet.is) refl

pub returns-in-Ratchet : goal.returns-in-Ratchet
returns-in-Ratchet c = ratchet_any _ c.args.flags _ _ _ (sym c.operation.ensures ∙ c.in-Ratchet.is) c.generalized_ratchet.ensures

pub returns-in-Unknown : goal.returns-in-Unknown
returns-in-Unknown c =
    refused _ _ _ _ c.tested.result
    (λ e. unknown_refused _ _ _ _ _ (sym c.operation.ensures ∙ c.in-Unknown.is) (sym c.tested.ensures ∙ ap number e))
    c.tested.ensures
