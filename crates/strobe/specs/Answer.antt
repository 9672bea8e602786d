-- The answers by their numbers: docs/RULES.md, section 7. The journal's own answer, 7, has its number here too.
use Rattle.std.specs.Prelude.{Bool, not, ◌||◌, ℕ, eqb}
use Rattle.strobe.specs.declared.answer.Answer.{Answer}
use Rattle.strobe.specs.declared.answer.Answer.TheVariants.{Done, KeyFlag, NoOperation, NotTheLast, CutMac, TooLong, NoLevel, NotASession, MacUnequal, BadSaved, ShortBuffer}

abbrev pub done : ℕ
done = 0

abbrev pub key_flag : ℕ
key_flag = 1

abbrev pub no_operation : ℕ
no_operation = 2

abbrev pub not_the_last : ℕ
not_the_last = 3

abbrev pub cut_mac : ℕ
cut_mac = 4

abbrev pub too_long : ℕ
too_long = 5

abbrev pub no_level : ℕ
no_level = 6

abbrev pub bad_line : ℕ
bad_line = 7

abbrev pub not_a_session : ℕ
not_a_session = 8

abbrev pub mac_unequal : ℕ
mac_unequal = 9

abbrev pub bad_saved : ℕ
bad_saved = 10

abbrev pub short_buffer : ℕ
short_buffer = 11

abbrev pub number : Answer → ℕ
number Done = done
number KeyFlag = key_flag
number NoOperation = no_operation
number NotTheLast = not_the_last
number CutMac = cut_mac
number TooLong = too_long
number NoLevel = no_level
number NotASession = not_a_session
number MacUnequal = mac_unequal
number BadSaved = bad_saved
number ShortBuffer = short_buffer

-- a wrong MAC is an answer; every other answer but 0 is a refusal
abbrev pub refuses : ℕ → Bool
refuses n = not (eqb n done || eqb n mac_unequal)
