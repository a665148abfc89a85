-- The lines of a text, and the two parts of a line: its code, and the comment after it.
use Rattle.std.specs.Prelude.{ℕ, ◌+◌, List, [], ◌∷◌, map, length, if◌then◌else◌, ◌==◌, Bool, not, ◌&&◌, ◌||◌, nat_le}
use Rattle.std.specs.List.{sum_by, list_all, before_first, onto_first}
use Rattle.unit_tree.specs.Tokens.{is_blank}

-- The lines of a text, each without its end. A line ends with LF or with the end of the text. There are
-- as many lines as LFs, and one more where bytes follow the last LF.
abbrev pub lines_of : List ℕ → List (List ℕ)
lines_of [] = []
lines_of (byte ∷ text) = if byte == 10 then [] ∷ lines_of text else onto_first byte (lines_of text)

-- How many bytes the text has, where each line counts a LF, also a last line without one.
abbrev pub size_of : List ℕ → ℕ
size_of text = sum_by (λ line. length line + 1) (lines_of text)

-- A line without a CR at its end, which belongs to the line end.
abbrev pub without_return : List ℕ → List ℕ
without_return [] = []
without_return (byte ∷ []) = if byte == 13 then [] else (byte ∷ [])
without_return (byte ∷ next ∷ line) = byte ∷ without_return (next ∷ line)

-- The lines of a text, each without its line end: LF, or CR and LF.
abbrev pub source_lines : List ℕ → List (List ℕ)
source_lines text = map without_return (lines_of text)

-- The code of a line: the bytes before its comment, which begins with `#`.
abbrev pub code_of : List ℕ → List ℕ
code_of line = before_first (λ byte. byte == 35) line

-- A line is blank where it has only spaces, tabs and a comment.
abbrev pub is_blank_line : List ℕ → Bool
is_blank_line line = list_all is_blank (code_of line)

-- Code has bytes from the space to `~`, and tabs. A comment may have every byte.
abbrev pub is_code_byte : ℕ → Bool
is_code_byte byte = (nat_le 32 byte && nat_le byte 126) || (byte == 9)

abbrev pub has_forbidden_byte : List ℕ → Bool
has_forbidden_byte line = not (list_all is_code_byte (code_of line))
