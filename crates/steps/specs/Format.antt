-- The file format: a step is nine bytes, the kind and then the number, low byte first. Steps follow one another, and reading ends after the first flaw.
use Rattle.std.specs.Prelude.{◌≡◌, ℕ, ◌+◌, ◌*◌, ◌/◌, ◌%◌, ◌<◌, List, [], ◌∷◌, ◌++◌, length, drop, Some, None, Ok, Err, Option, Result, ◌==◌, nat_lt, slice_index, codes, decimal}
use Rattle.hall.specs.House.{pick}
use Rattle.hall.specs.Promise.{number_of}
use Rattle.placing.specs.Acts.{command_of, kind_number, kind_named, kind_in, command_with}
use Rattle.placing.specs.declared.acts.Command.{Command}
use Rattle.placing.specs.declared.acts.Kind.{Kind}
use Rattle.placing.specs.declared.acts.UnknownKind.{UnknownKind}
use Rattle.steps.specs.declared.Flaw.{Flaw}
use Rattle.steps.specs.declared.Flaw.TheVariants.{Torn, BadKind}

-- what is printed of a flaw
abbrev pub text_of : Flaw → List ℕ
text_of Torn = codes "the file ends within it"
text_of (BadKind kind) = codes "its kind is " ++ (decimal kind ++ codes ", and the highest is 4")

-- the eight bytes of a number, low byte first
abbrev pub bytes_of : ℕ → List ℕ
bytes_of n =
    n % 256 ∷ n / 256 % 256 ∷ n / 65536 % 256 ∷ n / 16777216 % 256
    ∷ n / 4294967296 % 256 ∷ n / 1099511627776 % 256 ∷ n / 281474976710656 % 256 ∷ n / 72057594037927936 % 256 ∷ []

-- what is written for a command
abbrev pub written : Command → List ℕ
written c = kind_number (kind_in c) ∷ bytes_of (number_of (command_of c))

-- the number in the eight bytes after the first, low byte first
abbrev pub value : List ℕ → ℕ
value bs =
    slice_index bs 1 + slice_index bs 2 * 256 + slice_index bs 3 * 65536 + slice_index bs 4 * 16777216
    + slice_index bs 5 * 4294967296 + slice_index bs 6 * 1099511627776 + slice_index bs 7 * 281474976710656 + slice_index bs 8 * 72057594037927936

-- the command of this kind about this number
abbrev pub command_of_kind : Result Kind UnknownKind → ℕ → Result Command Flaw
command_of_kind (Ok kind) n = Ok (command_with kind n)
command_of_kind (Err unknown) n = Err (BadKind unknown.0)

abbrev pub command_for : ℕ → ℕ → Result Command Flaw
command_for kind n = command_of_kind (kind_named kind) n

-- the step that the bytes begin with
abbrev pub step_in : List ℕ → Result Command Flaw
step_in bs = pick (nat_lt (length bs) 9) (Err Torn) (command_for (slice_index bs 0) (value bs))

-- what is read of the bytes next: nothing at their end, else a step
abbrev pub next_in : List ℕ → Option (Result Command Flaw)
next_in bs = pick (length bs == 0) None (Some (step_in bs))

-- what is left of the bytes then: nothing after a flaw
abbrev pub left_after : List ℕ → Option (Result Command Flaw) → List ℕ
left_after bs None = bs
left_after bs (Some (Ok c)) = drop 9 bs
left_after bs (Some (Err why)) = []

-- one turn over the bytes: what is read, and what is left
pub record Reads (bs : List ℕ) (r : Option (Result Command Flaw)) (rest : List ℕ) : Type 0 where
  pub reads : r ≡ next_in bs
  pub leaves : rest ≡ left_after bs r

-- what is written for commands, one after the other
abbrev pub written_all : List Command → List ℕ
written_all [] = []
written_all (c ∷ cs) = written c ++ written_all cs

-- the bytes are read as these commands, one after the other, and then they end
abbrev pub ReadAs : List ℕ → List Command → Type 0
ReadAs bs [] = next_in bs ≡ None
ReadAs bs (c ∷ cs) = (next_in bs ≡ Some (Ok c)) × ReadAs (left_after bs (Some (Ok c))) cs

-- the numbers fit 64 bits
abbrev pub AllWords : List Command → Type 0
AllWords [] = Unit {0}
AllWords (c ∷ cs) = (number_of (command_of c) < 18446744073709551616) × AllWords cs

-- what is written is read back
abbrev pub RoundTrip : Type 0
RoundTrip = (cs : List Command) → AllWords cs → ReadAs (written_all cs) cs
