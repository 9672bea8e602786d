-- A promise fixes one answer: two outcomes that meet it, and what they leave in a lent buffer, are equal. Assumes nothing.
use Prim.Native.Nat.{ℕ}
use mathlib.Core.Path.{◌≡◌, refl, sym, ap, ap₂, ◌∙◌}
use mathlib.Core.List.{List, [], ◌∷◌}
use mathlib.Core.Bool.{Bool}
use lib.ListN.{get_or}
use Rattle.std.specs.Prelude.{Result}
use Rattle.laws.proofs.Promise.{one_answer}
use Rattle.strobe.specs.Answer.{number, refuses}
use Rattle.strobe.specs.Flags.{has, operation}
use Rattle.strobe.specs.Pieces.{call_in_pieces}
use Rattle.strobe.specs.Session.{rate_of, sponge_of, seen, Given, fresh_at, blank, created, LevelNumber, version_text, Is, Comes, Calls}
use Rattle.strobe.specs.Strobe.{Effect, known_last, well_formed}
use Rattle.strobe.specs.declared.answer.Answer.{Answer}
use Rattle.strobe.specs.declared.answer.Answer.TheVariants.{Done, KeyFlag, NoOperation, NotTheLast, CutMac, TooLong, NoLevel, NotASession, MacUnequal, BadSaved, ShortBuffer}
use Rattle.strobe.specs.declared.flags.Flags.{Flags}
use Rattle.strobe.specs.declared.flags.Operation.{Operation}
use Rattle.strobe.specs.declared.last.Last.{Last}
use Rattle.strobe.specs.declared.level.Level.{Level}
use Rattle.strobe.specs.declared.session.Outcome.{Outcome}
use Rattle.strobe.specs.declared.session.Session.{Session}

-- ---- an answer has a number of its own

-- by number; 7 is no answer of STROBE's
abbrev answer_at : ℕ → Answer
answer_at n =
    get_or (Done ∷ KeyFlag ∷ NoOperation ∷ NotTheLast ∷ CutMac ∷ TooLong ∷ NoLevel ∷ Done ∷ NotASession ∷ MacUnequal ∷ BadSaved ∷ ShortBuffer ∷ []) n Done

number-back : (a : Answer) → answer_at (number a) ≡ a
number-back Done = refl
number-back KeyFlag = refl
number-back NoOperation = refl
number-back NotTheLast = refl
number-back CutMac = refl
number-back TooLong = refl
number-back NoLevel = refl
number-back NotASession = refl
number-back MacUnequal = refl
number-back BadSaved = refl
number-back ShortBuffer = refl

pub number_one : (a b : Answer) → number a ≡ number b → a ≡ b
number_one a b e = sym (number-back a) ∙ ap answer_at e ∙ number-back b

-- ---- the two shapes

pub is_one : (g : Given) {r q : Outcome} → Is g r → Is g q → r ≡ q
is_one g {r} {q} i j =
    ap₂ (λ (s : Session) (a : Answer). record { session = s; answer = a }) (one_answer i.session j.session)
    (number_one r.answer q.answer (one_answer i.answer j.answer))

pub comes_one : (l : Level) (e : Effect) {r q : Outcome} {x y : List ℕ} → Comes l e r x → Comes l e q y → (r ≡ q) × (x ≡ y)
comes_one l e i j = (is_one _ i.outcome j.outcome, one_answer i.lent j.lent)

-- ---- the public functions

pub new_one_answer : (l : Level) (proto : List ℕ) {r q : Outcome} → Is (fresh_at l proto) r → Is (fresh_at l proto) q → r ≡ q
new_one_answer l proto = is_one (fresh_at l proto)

pub level_one_answer : (n : ℕ) {r q : Result Level Answer} → LevelNumber n r → LevelNumber n q → r ≡ q
level_one_answer n p q = one_answer p q

pub create_one_answer : (proto : List ℕ) (n : ℕ) {r q : Outcome} → Is (created proto n) r → Is (created proto n) q → r ≡ q
create_one_answer proto n = is_one (created proto n)

-- the call by number, and at their flags the twenty operations by name
pub call_one_answer : (s : Session) (f : Flags) (more : Bool) (bs : List ℕ) {r q : Outcome} {x y : List ℕ}
    → Calls s f more bs r x → Calls s f more bs q y → (r ≡ q) × (x ≡ y)
call_one_answer s f more bs i j = comes_one _ _ i j

pub call_in_pieces_one_answer : (s : Session) (f : Flags) (more : Bool) (size : ℕ) (bs : List ℕ) {r q : Outcome} {x y : List ℕ}
    → let e = call_in_pieces (sponge_of s.level) (seen s) f more size bs in
    Comes s.level e r x → Comes s.level e q y → (r ≡ q) × (x ≡ y)
call_in_pieces_one_answer s f more size bs i j = comes_one _ _ i j

pub version_str_one_answer : (s : Session) {x y : List ℕ} → x ≡ version_text s.level → y ≡ version_text s.level → x ≡ y
version_str_one_answer s = one_answer

pub rate_one_answer : (l : Level) {x y : ℕ} → x ≡ rate_of l → y ≡ rate_of l → x ≡ y
rate_one_answer l = one_answer

pub has_one_answer : (f one : Flags) {x y : Bool} → x ≡ has f one → y ≡ has f one → x ≡ y
has_one_answer f one = one_answer

pub operation_one_answer : (f : Flags) {x y : Operation} → x ≡ operation f → y ≡ operation f → x ≡ y
operation_one_answer f = one_answer

pub last_known_one_answer : (l : Last) {x y : Bool} → x ≡ known_last l → y ≡ known_last l → x ≡ y
last_known_one_answer l = one_answer

pub number_one_answer : (a : Answer) {x y : ℕ} → x ≡ number a → y ≡ number a → x ≡ y
number_one_answer a = one_answer

pub refuses_one_answer : (a : Answer) {x y : Bool} → x ≡ refuses (number a) → y ≡ refuses (number a) → x ≡ y
refuses_one_answer a = one_answer

pub blank_one_answer : {x y : Session} → x ≡ blank → y ≡ blank → x ≡ y
blank_one_answer = one_answer

pub well_formed_one_answer : (s : Session) {x y : Bool} → x ≡ well_formed (rate_of s.level) (seen s) → y ≡ well_formed (rate_of s.level) (seen s) → x ≡ y
well_formed_one_answer s = one_answer
