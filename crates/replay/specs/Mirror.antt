-- The mirror of an operation: what the second end lends, and what it gets.
use Rattle.std.specs.Prelude.{cond, List, ◌≡◌, ℕ, length}
use Rattle.std.specs.Int.Bits.{bit_xor}
use Rattle.strobe.specs.Answer.{done}
use Rattle.strobe.specs.Flags.{flags, I, T, has, operation}
use Rattle.strobe.specs.declared.direction.Direction.TheVariants.{Neither, Sender, Receiver}
use Rattle.strobe.specs.declared.direction.Direction.{Direction}
use Rattle.strobe.specs.declared.flags.Flags.{Flags}
use Rattle.strobe.specs.declared.flags.Operation.TheVariants.{Ad, Ratchet, Key, Prf, SendClr, RecvClr, SendMac, RecvMac, SendEnc, RecvEnc, Unknown}
use Rattle.strobe.specs.declared.flags.Operation.{Operation}
use Rattle.replay.specs.History.{Joined}

-- what one end sends the other receives: with T, bit I is turned
abbrev pub mirrored : Flags → Flags
mirrored f = cond (has f T) (flags (bit_xor f.0 I.0)) f

-- the first end did a; the second lends bs
abbrev pub Lends : Operation → Joined → List ℕ → Type 0
Lends Ad a bs = bs ≡ a.bytes  -- the same shared bytes
Lends Key a bs = bs ≡ a.bytes  -- the same shared bytes
Lends Ratchet a bs = length bs ≡ length a.bytes  -- the same length
Lends Prf a bs = length bs ≡ length a.bytes  -- the same length
Lends SendClr a bs = bs ≡ a.lent  -- unaltered transport
Lends SendEnc a bs = bs ≡ a.lent  -- unaltered transport
Lends SendMac a bs = bs ≡ a.lent  -- unaltered transport
Lends RecvClr a bs = bs ≡ a.lent  -- it sends what the first received
Lends RecvEnc a bs = bs ≡ a.lent  -- it encrypts what the first decrypted
Lends RecvMac a bs = length bs ≡ length a.bytes  -- it makes a MAC of the same length
Lends Unknown a bs = ⊥  -- no history has one

-- the first end did a; the second did b, and its bytes have become b .lent
abbrev pub Gets : Operation → Joined → Joined → Type 0
Gets Ad a b = b.lent ≡ b.bytes  -- its bytes are as they were
Gets Key a b = b.lent ≡ b.bytes  -- its bytes are as they were
Gets Ratchet a b = b.lent ≡ b.bytes  -- its bytes are as they were
Gets Prf a b = b.lent ≡ a.lent  -- it draws the same bytes
Gets SendClr a b = b.lent ≡ a.bytes  -- it knows the plaintext
Gets SendEnc a b = b.lent ≡ a.bytes  -- it knows the plaintext
Gets SendMac a b = b.lent ≡ b.bytes  -- the MAC's bytes are as they were
Gets RecvClr a b = b.lent ≡ a.bytes  -- it sent just what the first was lent
Gets RecvEnc a b = b.lent ≡ a.bytes  -- it sent just what the first was lent
Gets RecvMac a b = b.lent ≡ a.bytes  -- it sent just what the first was lent
Gets Unknown a b = ⊥  -- no history has one

pub record Mirrors (a b : Joined) : Type 0 where
  pub flags : b.flags ≡ mirrored a.flags
  pub lends : Lends (operation a.flags) a b.bytes

pub record Agrees (a b : Joined) : Type 0 where
  -- 0: it accepts every MAC
  pub answer : b.answer ≡ done
  pub gets : Gets (operation a.flags) a b

-- where one end is the sender the other is the receiver
abbrev pub opposite : Direction → Direction
opposite Neither = Neither
opposite Sender = Receiver
opposite Receiver = Sender
