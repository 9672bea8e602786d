-- The mirror's flags, tested at each of the twenty: the operation is the other end's, the same bytes open it, and the directions stay opposite. Assumes nothing.
use Prim.Native.Nat.{ℕ}
use mathlib.Core.Path.{◌≡◌, refl, ap}
use mathlib.Core.Bool.{Bool, true, false}
use Rattle.laws.proofs.Bools.{true_not_false}
use Rattle.strobe.proofs.Twenty.{at_each, handled_as}
use Rattle.strobe.specs.Duplex.{Sponge, Duplex}
use Rattle.strobe.specs.Every.{Every}
use Rattle.strobe.specs.Flags.{C, K, has, operation_of, operation, known}
use Rattle.strobe.specs.Loops.{takers, changers, macs, ratchets}
use Rattle.strobe.specs.Strobe.{mixed, directed, forced, begin_op}
use Rattle.strobe.specs.declared.direction.Direction.TheVariants.{Neither, Sender, Receiver}
use Rattle.strobe.specs.declared.direction.Direction.{Direction}
use Rattle.strobe.specs.declared.flags.Flags.{Flags}
use Rattle.strobe.specs.declared.flags.Operation.TheVariants.{Ad, Ratchet, Key, Prf, SendClr, RecvClr, SendMac, RecvMac, SendEnc, RecvEnc, Unknown}
use Rattle.strobe.specs.declared.flags.Operation.{Operation}
use Rattle.replay.specs.Mirror.{mirrored, opposite}
use Rattle.replay.specs.Whole.{OneOfTwenty}

abbrev pub other : Operation → Operation
other Ad = Ad
other Ratchet = Ratchet
other Key = Key
other Prf = Prf
other SendClr = RecvClr
other RecvClr = SendClr
other SendMac = RecvMac
other RecvMac = SendMac
other SendEnc = RecvEnc
other RecvEnc = SendEnc
other Unknown = Unknown

-- ---- what holds at each of the twenty

at-known : (P : Flags → Type 0) → Every P takers → Every P changers → Every P macs → Every P ratchets → (f : Flags) → OneOfTwenty f → P f
at-known P hs cs ms rs f k = go (operation f) refl k
  where
    go : (o : Operation) → operation f ≡ o → known o ≡ true → P f
    go Ad e k = at_each P takers hs f (handled_as f Ad e k)
    go Ratchet e k = at_each P ratchets rs f (handled_as f Ratchet e k)
    go Key e k = at_each P takers hs f (handled_as f Key e k)
    go Prf e k = at_each P changers cs f (handled_as f Prf e k)
    go SendClr e k = at_each P takers hs f (handled_as f SendClr e k)
    go RecvClr e k = at_each P takers hs f (handled_as f RecvClr e k)
    go SendMac e k = at_each P changers cs f (handled_as f SendMac e k)
    go RecvMac e k = at_each P macs ms f (handled_as f RecvMac e k)
    go SendEnc e k = at_each P changers cs f (handled_as f SendEnc e k)
    go RecvEnc e k = at_each P changers cs f (handled_as f RecvEnc e k)
    go Unknown e k = absurd (true_not_false k refl)

-- all that an end makes of a flag byte: the operation, whether it closes a block, the direction it sets, and what is mixed in by direction
record Meaning : Type 0 where
  operation : Operation
  closes : Bool
  sets : Direction
  at_first : ℕ
  as_sender : ℕ
  as_receiver : ℕ

abbrev meaning : Flags → Meaning
meaning f =
    record {
      operation = operation f;
      closes = has f C;
      sets = directed Neither f;
      at_first = mixed (directed Neither f) f;
      as_sender = mixed Sender f;
      as_receiver = mixed Receiver f;
    }

-- the same seen from the other end
abbrev across : Meaning → Meaning
across m =
    record {
      operation = other m.operation;
      closes = m.closes;
      sets = opposite m.sets;
      at_first = m.at_first;
      as_sender = m.as_receiver;
      as_receiver = m.as_sender;
    }

abbrev Turns : Flags → Type 0
Turns f = meaning (mirrored f) ≡ across (meaning f)

turns : (f : Flags) → OneOfTwenty f → Turns f
unfolding operation operation_of mixed
turns =
    at-known Turns
    (refl, (refl, (refl, (refl, (refl, (refl, (refl, (refl, tt))))))))
    (refl, (refl, (refl, (refl, (refl, (refl, (refl, (refl, tt))))))))
    (refl, (refl, tt))
    (refl, (refl, tt))

pub known_no_key : (f : Flags) → OneOfTwenty f → has f K ≡ false
known_no_key =
    at-known (λ f. has f K ≡ false)
    (refl, (refl, (refl, (refl, (refl, (refl, (refl, (refl, tt))))))))
    (refl, (refl, (refl, (refl, (refl, (refl, (refl, (refl, tt))))))))
    (refl, (refl, tt))
    (refl, (refl, tt))

pub turned_known : (f : Flags) → OneOfTwenty f → OneOfTwenty (mirrored f)
unfolding operation operation_of
turned_known =
    at-known (λ f. OneOfTwenty (mirrored f))
    (refl, (refl, (refl, (refl, (refl, (refl, (refl, (refl, tt))))))))
    (refl, (refl, (refl, (refl, (refl, (refl, (refl, (refl, tt))))))))
    (refl, (refl, tt))
    (refl, (refl, tt))

-- ---- one by one

pub turned_operation : (f : Flags) → OneOfTwenty f → operation (mirrored f) ≡ other (operation f)
turned_operation f k = ap (λ (m : Meaning). m.operation) (turns f k)

turned_closes : (f : Flags) → OneOfTwenty f → has (mirrored f) C ≡ has f C
turned_closes f k = ap (λ (m : Meaning). m.closes) (turns f k)

pub turned_directed : (f : Flags) → OneOfTwenty f → (dir : Direction) → directed (opposite dir) (mirrored f) ≡ opposite (directed dir f)
turned_directed f k Neither = ap (λ (m : Meaning). m.sets) (turns f k)
turned_directed f k Sender = refl
turned_directed f k Receiver = refl

turned_mixed : (f : Flags) → OneOfTwenty f → (dir : Direction)
    → mixed (directed (opposite dir) (mirrored f)) (mirrored f) ≡ mixed (directed dir f) f
turned_mixed f k Neither = ap (λ (m : Meaning). m.at_first) (turns f k)
turned_mixed f k Sender = ap (λ (m : Meaning). m.as_receiver) (turns f k)
turned_mixed f k Receiver = ap (λ (m : Meaning). m.as_sender) (turns f k)

-- the same bytes open the operation at both ends
pub turned_begins : (sp : Sponge) (f : Flags) → OneOfTwenty f → (dir : Direction) (d : Duplex)
    → begin_op sp (directed (opposite dir) (mirrored f)) (mirrored f) d ≡ begin_op sp (directed dir f) f d
unfolding begin_op forced
turned_begins sp f k dir d = rw (turned_mixed f k dir, turned_closes f k)
