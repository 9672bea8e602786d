-- Mistakes in STROBE's rules, one at a time: five that break replay, and two that replay does not find and the definition's bytes do.
use Rattle.std.specs.Prelude.{Bool, true, false, cond, ◌||◌, ℕ, eqb}
use Rattle.std.specs.Int.Bits.{bit_xor}
use Rattle.strobe.specs.Duplex.{Sponge, Rule}
use Rattle.strobe.specs.Flags.{I, has, absorbing, enciphering, untouched, rule_of}
use Rattle.strobe.specs.Strobe.{Strobe, directed, mixed}
use Rattle.strobe.specs.declared.direction.Direction.TheVariants.{Neither, Sender, Receiver}
use Rattle.strobe.specs.declared.direction.Direction.{Direction}
use Rattle.strobe.specs.declared.flags.Operation.TheVariants.{Ad, Ratchet, Key, Prf, SendClr, RecvClr, SendMac, RecvMac, SendEnc, RecvEnc, Unknown}
use Rattle.strobe.specs.declared.flags.Operation.{Operation}
use Rattle.replay.specs.Rules.{Rules, ruled, Request, end_of, made_by}
use Rattle.replay.specs.Usable.{Sound}
use Rattle.replay.specs.Whole.{OneOfTwenty, Right}

-- the number of a row
abbrev place : Operation → ℕ
place Ad = 0
place Ratchet = 1
place Key = 2
place Prf = 3
place SendClr = 4
place RecvClr = 5
place SendMac = 6
place RecvMac = 7
place SendEnc = 8
place RecvEnc = 9
place Unknown = 10

-- the table with one row changed
abbrev with_row : Operation → Rule → Operation → Rule
with_row o r p = cond (eqb (place p) (place o)) r (rule_of p)

-- ---- five that break it

-- recv_enc leaves the plaintext in the state, where send_enc leaves the ciphertext
abbrev pub plaintext_kept : Rules
plaintext_kept = ruled (with_row RecvEnc enciphering)

-- prf xors its bytes into the caller's
abbrev pub prf_xored : Rules
prf_xored = ruled (with_row Prf (record { state = λ s b. 0; buffer = λ s b. bit_xor s b }))

-- recv_mac xors the MAC into the state
abbrev pub mac_absorbed : Rules
mac_absorbed = ruled (with_row RecvMac absorbing)

-- the flags are mixed in as called
abbrev pub mixed_as_called : Rules
mixed_as_called = record { rule = rule_of; direct = directed; mixing = λ dir f. f.0 }

abbrev is_neither : Direction → Bool
is_neither Neither = true
is_neither Sender = false
is_neither Receiver = false

-- the first operation sets the direction, ad as well
abbrev pub directed_by_all : Rules
directed_by_all =
    record {
      rule = rule_of;
      direct = λ dir f. cond (is_neither dir) (cond (has f I) Receiver Sender) dir;
      mixing = mixed;
    }

-- ---- two that keep to replay: it does not ask where the bytes come from, the definition does

-- a frozen prf
abbrev pub prf_frozen : Operation → Rule
prf_frozen = with_row Prf (record { state = λ s b. 0; buffer = λ s b. 0 })

-- a cipher that copies its bytes, at both ends
abbrev pub cipher_copies : Operation → Rule
cipher_copies p = cond (eqb (place p) (place SendEnc) || eqb (place p) (place RecvEnc)) untouched (rule_of p)

-- what a table makes is what the definition makes
abbrev pub MeetsDefinition : (Operation → Rule) → Type 0
MeetsDefinition table =
    (sp : Sponge) → Sound sp → (s : Strobe) (q : Request) → OneOfTwenty q.flags → Right sp s (made_by (ruled table) sp (end_of s) q)
