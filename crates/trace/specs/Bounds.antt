-- The sizes that the contracts cite. Assumes nothing.
use Rattle.std.specs.Prelude.{ℕ}

-- of a line's characters, of the longest buffer that is lent, and of the output that is gathered
abbrev pub line_limit : ℕ
line_limit = 8197

abbrev pub lent_limit : ℕ
lent_limit = 4096

abbrev pub out_size : ℕ
out_size = 65536

-- a line of output has so many characters beside the digits of the lent bytes
abbrev pub record_size : ℕ
record_size = 446

-- the longest reply to a line: two lines of output with 4,096 lent bytes each
abbrev pub reply_limit : ℕ
reply_limit = 17276
