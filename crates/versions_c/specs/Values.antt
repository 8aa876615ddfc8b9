-- Values: numbers and texts, and how they cross.
use Rattle.std.specs.Prelude.{ℕ, Bool, true, false, List, [], length, drop, ◌++◌, nat_le, IsTrue, IsUtf8}
use Rattle.elem_core.specs.Cell.{IsCell}
use Rattle.elem_core.specs.Codes.{text_code}
use Rattle.elem_core.specs.Shown.{line_bytes}
use Rattle.versions_c.specs.declared.value.Value.{Value}
use Rattle.versions_c.specs.declared.value.Value.TheVariants.{Number, Text}
use Rattle.versions_c.specs.declared.form.Form.{Form}
use Rattle.versions_c.specs.declared.form.Given.{Given}
use Rattle.versions_c.specs.declared.form.Given.TheVariants as passed

abbrev pub value_code : Value → ℕ
value_code (Number n) = n
value_code (Text bytes) = text_code bytes

-- the bytes are UTF-8, without newline, and at most the longest line
abbrev pub IsText : List ℕ → Type 0
IsText bytes = IsUtf8 bytes × IsCell bytes

-- what is passed as a text is one
abbrev pub IsGiven : Form → List ℕ → Type 0
IsGiven form bytes = IsTrue form.is_text → IsText bytes

-- the value that is passed
abbrev given_as : Bool → ℕ → List ℕ → Value
given_as true number bytes = Text bytes
given_as false number bytes = Number number

abbrev pub given : Form → List ℕ → Value
given form bytes = given_as form.is_text form.number bytes

abbrev pub given_value : Given → Value
given_value (passed.Number n) = Number n
given_value (passed.Text line) = Text (line_bytes line)

-- the bytes of a text, and none of a number
abbrev pub value_bytes : Value → List ℕ
value_bytes (Number n) = []
value_bytes (Text bytes) = bytes

-- a value but for its bytes
abbrev pub form_of : Value → Form
form_of (Number n) = record { is_text = false; number = n }
form_of (Text bytes) = record { is_text = true; number = length bytes }

-- the room with the bytes at its begin, where they fit, and the room as it was where they don't
abbrev laid_if : Bool → List ℕ → List ℕ → List ℕ
laid_if true room bytes = bytes ++ drop (length bytes) room
laid_if false room bytes = room

abbrev pub laid : List ℕ → List ℕ → List ℕ
laid room bytes = laid_if (nat_le (length bytes) (length room)) room bytes

-- how a value is shown: its form, and in the room its bytes
abbrev pub shown_value : Form × List ℕ → Value → Form × List ℕ
shown_value was x = (form_of x, laid was.1 (value_bytes x))
