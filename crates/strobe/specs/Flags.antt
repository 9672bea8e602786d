-- The flag byte: docs/RULES.md, section 1, and the limits of section 7. Its six bits, the twenty operations, and the table of their rules.
use Rattle.std.specs.Prelude.{Bool, true, false, not, cond, ℕ, ◌%◌, eqb, ltb}
use Rattle.std.specs.Int.Bits.{bit_and, bit_xor}
use Rattle.strobe.specs.Duplex.{Rule}
use Rattle.strobe.specs.declared.flags.Flags.{Flags}
use Rattle.strobe.specs.declared.flags.Operation.{Operation}
use Rattle.strobe.specs.declared.flags.Operation.TheVariants.{Ad, Ratchet, Key, Prf, SendClr, RecvClr, SendMac, RecvMac, SendEnc, RecvEnc, Unknown}

abbrev pub flags : ℕ → Flags
flags n = record { 0 = n }

-- ---- the bits

abbrev pub I : Flags
I = flags 0x01

abbrev pub A : Flags
A = flags 0x02

abbrev pub C : Flags
C = flags 0x04

abbrev pub T : Flags
T = flags 0x08

abbrev pub M : Flags
M = flags 0x10

abbrev pub K : Flags
K = flags 0x20

-- a bit of `one` is set in f
abbrev pub has : Flags → Flags → Bool
has f one = not (eqb (bit_and f.0 one.0) 0)

-- ---- the operations

abbrev pub AD : Flags
AD = flags 0x02

abbrev pub RATCHET : Flags
RATCHET = flags 0x04

abbrev pub KEY : Flags
KEY = flags 0x06

abbrev pub PRF : Flags
PRF = flags 0x07

abbrev pub SEND_CLR : Flags
SEND_CLR = flags 0x0a

abbrev pub RECV_CLR : Flags
RECV_CLR = flags 0x0b

abbrev pub SEND_MAC : Flags
SEND_MAC = flags 0x0c

abbrev pub RECV_MAC : Flags
RECV_MAC = flags 0x0d

abbrev pub SEND_ENC : Flags
SEND_ENC = flags 0x0e

abbrev pub RECV_ENC : Flags
RECV_ENC = flags 0x0f

abbrev pub META_AD : Flags
META_AD = flags 0x12

abbrev pub META_RATCHET : Flags
META_RATCHET = flags 0x14

abbrev pub META_KEY : Flags
META_KEY = flags 0x16

abbrev pub META_PRF : Flags
META_PRF = flags 0x17

abbrev pub META_SEND_CLR : Flags
META_SEND_CLR = flags 0x1a

abbrev pub META_RECV_CLR : Flags
META_RECV_CLR = flags 0x1b

abbrev pub META_SEND_MAC : Flags
META_SEND_MAC = flags 0x1c

abbrev pub META_RECV_MAC : Flags
META_RECV_MAC = flags 0x1d

abbrev pub META_SEND_ENC : Flags
META_SEND_ENC = flags 0x1e

abbrev pub META_RECV_ENC : Flags
META_RECV_ENC = flags 0x1f

-- by the byte without M
unfoldable pub operation_of : ℕ → Operation
operation_of n =
    cond (eqb n 0x02) Ad
    (cond (eqb n 0x04) Ratchet
    (cond (eqb n 0x06) Key
    (cond (eqb n 0x07) Prf
    (cond (eqb n 0x0a) SendClr
    (cond (eqb n 0x0b) RecvClr
    (cond (eqb n 0x0c) SendMac
    (cond (eqb n 0x0d) RecvMac
    (cond (eqb n 0x0e) SendEnc
    (cond (eqb n 0x0f) RecvEnc
    Unknown)))))))))

-- the meta form adds M; a byte that is none of the twenty is `Unknown`
unfoldable pub operation : Flags → Operation
operation f = cond (ltb f.0 0x20) (operation_of (f.0 % 0x10)) Unknown

abbrev pub known : Operation → Bool
known Ad = true
known Ratchet = true
known Key = true
known Prf = true
known SendClr = true
known RecvClr = true
known SendMac = true
known RecvMac = true
known SendEnc = true
known RecvEnc = true
known Unknown = false

abbrev pub is_recv_mac : Operation → Bool
is_recv_mac Ad = false
is_recv_mac Ratchet = false
is_recv_mac Key = false
is_recv_mac Prf = false
is_recv_mac SendClr = false
is_recv_mac RecvClr = false
is_recv_mac SendMac = false
is_recv_mac RecvMac = true
is_recv_mac SendEnc = false
is_recv_mac RecvEnc = false
is_recv_mac Unknown = false

-- the limits of one call
abbrev pub ratchet_limit : ℕ
ratchet_limit = 65536

abbrev pub mac_limit : ℕ
mac_limit = 64

abbrev pub over_limit : Operation → ℕ → Bool
over_limit Ad n = false
over_limit Ratchet n = ltb ratchet_limit n
over_limit Key n = false
over_limit Prf n = false
over_limit SendClr n = false
over_limit RecvClr n = false
over_limit SendMac n = false
over_limit RecvMac n = ltb mac_limit n
over_limit SendEnc n = false
over_limit RecvEnc n = false
over_limit Unknown n = false

-- ---- the rules: what state byte s and buffer byte b become

abbrev pub absorbing : Rule
absorbing = record { state = λ s b. bit_xor s b; buffer = λ s b. b }

abbrev pub zeroing : Rule
zeroing = record { state = λ s b. 0; buffer = λ s b. b }

abbrev pub overwriting : Rule
overwriting = record { state = λ s b. b; buffer = λ s b. b }

abbrev pub squeezing : Rule
squeezing = record { state = λ s b. 0; buffer = λ s b. s }

abbrev pub copying : Rule
copying = record { state = λ s b. s; buffer = λ s b. s }

abbrev pub enciphering : Rule
enciphering = record { state = λ s b. bit_xor s b; buffer = λ s b. bit_xor s b }

abbrev pub deciphering : Rule
deciphering = record { state = λ s b. b; buffer = λ s b. bit_xor s b }

abbrev pub untouched : Rule
untouched = record { state = λ s b. s; buffer = λ s b. b }

-- the table; `Unknown` is refused before any byte is touched
abbrev pub rule_of : Operation → Rule
rule_of Ad = absorbing
rule_of Ratchet = zeroing
rule_of Key = overwriting
rule_of Prf = squeezing
rule_of SendClr = absorbing
rule_of RecvClr = absorbing
rule_of SendMac = copying
rule_of RecvMac = overwriting
rule_of SendEnc = enciphering
rule_of RecvEnc = deciphering
rule_of Unknown = untouched
