-- The bytes of a form that are no numbers, there and back: level, direction and last operation. Assumes nothing.
use Prim.Native.Nat.{ℕ}
use mathlib.Core.Path.{◌≡◌, refl}
use mathlib.Core.Bool.{true}
use native.Mathlib.Omega.{arith}
use Rattle.strobe.specs.Flags.{operation}
use Rattle.strobe.specs.Strobe.{known_last}
use Rattle.strobe.specs.declared.direction.Direction.{Direction}
use Rattle.strobe.specs.declared.direction.Direction.TheVariants.{Neither, Sender, Receiver}
use Rattle.strobe.specs.declared.last.Last.{Last}
use Rattle.strobe.specs.declared.last.Last.TheVariants.{Nothing, Op}
use Rattle.strobe.specs.declared.level.Level.{Level}
use Rattle.strobe.specs.declared.level.Level.TheVariants.{B128, B256}
use Rattle.saved.specs.Saved.{level_byte, direction_byte, last_byte, is_level, is_direction, level_of, direction_of, last_of}

pub level_byte-is_level : (l : Level) → is_level (level_byte l) ≡ true
level_byte-is_level B128 = refl
level_byte-is_level B256 = refl

pub level_of-byte : (l : Level) → level_of (level_byte l) ≡ l
level_of-byte B128 = refl
level_of-byte B256 = refl

pub direction_byte-is_direction : (d : Direction) → is_direction (direction_byte d) ≡ true
direction_byte-is_direction Neither = refl
direction_byte-is_direction Sender = refl
direction_byte-is_direction Receiver = refl

pub direction_of-byte : (d : Direction) → direction_of (direction_byte d) ≡ d
direction_of-byte Neither = refl
direction_of-byte Sender = refl
direction_of-byte Receiver = refl

pub level_byte_of : (b : ℕ) → is_level b ≡ true → level_byte (level_of b) ≡ b
level_byte_of b h = grind arith

pub direction_byte_of : (b : ℕ) → is_direction b ≡ true → direction_byte (direction_of b) ≡ b
direction_byte_of b h = grind arith

pub last_of-byte : (l : Last) → known_last l ≡ true → last_of (last_byte l) ≡ l
unfolding operation
last_of-byte Nothing k = refl
last_of-byte (Op f) k = grind arith

pub last_byte_of : (b : ℕ) → last_byte (last_of b) ≡ b
last_byte_of b = grind arith
