-- What the words of a line spell.
use Rattle.std.specs.Prelude.{ℕ, ◌-◌, ◌==◌, ℤ, Bool, false, List, [], Option, Some, None, Result, Ok, Err, codes, bytes_eq, nat_le, if◌then◌else◌, slice_index_or}
use Rattle.number_words.specs.Numbers.{number_in, signed_in}
use Rattle.grid_vertex.specs.declared.points.Point.{Point}
use Rattle.round_model.specs.declared.limits.TheConstants.{EYE_REACH, GREATEST_FOCAL, GREATEST_THRESHOLD}
use Rattle.round_model.specs.Views.{ViewSeen}
use Rattle.script_model.specs.declared.commands.Command.{Command}
use Rattle.script_model.specs.declared.commands.Command.TheVariants as commands
use Rattle.script_model.specs.declared.orders.Line.{Line}
use Rattle.script_model.specs.declared.orders.Order.{Order}
use Rattle.script_model.specs.declared.orders.Order.TheVariants as orders

-- one part after another; the first fault ends it
infixl 10 ◌>>=◌
abbrev pub ◌>>=◌ : {A B E : Type 0} → Result A E → (A → Result B E) → Result B E
(Ok x) >>= f = f x
(Err fault) >>= f = Err fault

-- the command that a word names
unfoldable pub command_in : List ℕ → Option Command
command_in word =
    if bytes_eq word (codes "open") then Some commands.Open else
    if bytes_eq word (codes "view") then Some commands.View else
    if bytes_eq word (codes "step") then Some commands.Step else
    if bytes_eq word (codes "frame") then Some commands.Frame else
    if bytes_eq word (codes "free") then Some commands.Free else
    if bytes_eq word (codes "close") then Some commands.Close else
    if bytes_eq word (codes "turn") then Some commands.Turn else
    if bytes_eq word (codes "settle") then Some commands.Settle else
    if bytes_eq word (codes "status") then Some commands.Status else
    None

-- how many words the line of a command has, the command with them
abbrev pub word_count : Command → ℕ
word_count commands.View = 8
word_count commands.Settle = 1
word_count commands.Status = 1
word_count command = 2

-- the word of this number, where the command is word 1
abbrev pub word_at : ℕ → List (List ℕ) → List ℕ
word_at k words = slice_index_or words (k - 1) []

-- the number, where it isn't below the least
abbrev pub not_below : ℕ → Option ℕ → Option ℕ
not_below least None = None
not_below least (Some n) = if nat_le least n then Some n else None

-- what was spelt, or the number of the word that spells nothing
abbrev pub found_at : {A : Type 0} → ℕ → Option A → Result A ℕ
found_at k None = Err k
found_at k (Some x) = Ok x

-- what the word of this number spells, or that number where it spells nothing in its range
abbrev pub spelt_at : {A : Type 0} → (List ℕ → Option A) → ℕ → List (List ℕ) → Result A ℕ
spelt_at spells k words = found_at k (spells (word_at k words))

-- a count, 0 to 4,294,967,295
abbrev pub count_at : ℕ → List (List ℕ) → Result ℕ ℕ
count_at = spelt_at (number_in 4294967295)

-- a coordinate of an eye, -2,097,152 to 2,097,152
abbrev pub coordinate_at : ℕ → List (List ℕ) → Result ℤ ℕ
coordinate_at = spelt_at (signed_in EYE_REACH)

-- a number from 1 to the greatest
abbrev pub positive_at : ℕ → ℕ → List (List ℕ) → Result ℕ ℕ
positive_at greatest = spelt_at (λ word. not_below 1 (number_in greatest word))

-- the eye that the words 3 to 5 spell
unfoldable pub eye_in : List (List ℕ) → Result Point ℕ
eye_in words = do
  x ← coordinate_at 3 words
  y ← coordinate_at 4 words
  z ← coordinate_at 5 words
  Ok (record { x = x; y = y; z = z })

-- the view that the words 3 to 8 spell: the eye, the focal number, the threshold and the limit
unfoldable pub view_in : List (List ℕ) → Result ViewSeen ℕ
view_in words = do
  eye ← eye_in words
  focal ← positive_at GREATEST_FOCAL 6 words
  threshold ← positive_at GREATEST_THRESHOLD 7 words
  limit ← count_at 8 words
  Ok (record { eye = eye; focal = focal; threshold = threshold; limit = limit })

-- the order that the words of a command spell, or the number of the first word that spells nothing in its range
unfoldable pub order_in : Command → List (List ℕ) → Result Order ℕ
order_in commands.Open words = count_at 2 words >>= λ session. Ok (orders.Open session)
order_in commands.View words = count_at 2 words >>= λ session. view_in words >>= λ view. Ok (orders.View session view)
order_in commands.Step words = count_at 2 words >>= λ session. Ok (orders.Step session)
order_in commands.Frame words = count_at 2 words >>= λ session. Ok (orders.Frame session)
order_in commands.Free words = count_at 2 words >>= λ session. Ok (orders.Free session)
order_in commands.Close words = count_at 2 words >>= λ session. Ok (orders.Close session)
order_in commands.Turn words = count_at 2 words >>= λ tier. Ok (orders.Turn tier)
order_in commands.Settle words = Ok orders.Settle
order_in commands.Status words = Ok orders.Status

-- the session that the order names
abbrev pub session_of : Order → Option ℕ
session_of (orders.Open session) = Some session
session_of (orders.View session view) = Some session
session_of (orders.Step session) = Some session
session_of (orders.Frame session) = Some session
session_of (orders.Free session) = Some session
session_of (orders.Close session) = Some session
session_of (orders.Turn tier) = None
session_of orders.Settle = None
session_of orders.Status = None

-- the number is there and this one
abbrev pub is_number : ℕ → Option ℕ → Bool
is_number session None = false
is_number session (Some named) = named == session

-- the line orders this session
abbrev pub is_of_session : ℕ → Line → Bool
is_of_session session line = is_number session (session_of line.order)
