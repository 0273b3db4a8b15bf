-- Which of two presence items of one member is the newer one (RTP2b).
use Rattle.std.specs.Prelude.{ℕ, Bool, ◌&&◌, ◌||◌, ◌==◌, if◌then◌else◌, nat_lt, nat_le, List, length, take, drop, Option, Some, None, option_and_then, codes, bytes_eq}
use Rattle.std.specs.List.{list_all, before_first, after_first}
use Rattle.rl_base.specs.declared.numerals.TheConstants.{MAX_PADDED_DIGITS}
use Rattle.rl_base.specs.Digits.{is_digit, spelled}
use Rattle.rl_types.specs.declared.presence.PresenceItem.{PresenceItem}

-- IDS

-- what follows a prefix of a text
abbrev pub rest_after : List ℕ → List ℕ → Option (List ℕ)
rest_after prefix text = if bytes_eq (take (length prefix) text) prefix then Some (drop (length prefix) text) else None

-- 1 to 38 decimal digits, which 128 bits always hold, with leading zeros where there are any
abbrev pub is_number : List ℕ → Bool
is_number text = nat_lt 0 (length text) && nat_le (length text) MAX_PADDED_DIGITS && list_all is_digit text

abbrev pub number : List ℕ → Option ℕ
number text = if is_number text then Some (spelled 10 text) else None

abbrev pub both : Option ℕ → Option ℕ → Option (ℕ × ℕ)
both (Some a) (Some b) = Some (a, b)
both _ _ = None

abbrev pub is_colon : ℕ → Bool
is_colon byte = byte == 58

-- `SERIAL:INDEX`
abbrev pub numbers_in : List ℕ → Option (ℕ × ℕ)
numbers_in text = both (number (before_first is_colon text)) (number (after_first is_colon text))

-- the message serial and the index of a regular id, which is its item's connection id, a colon, a number, a colon
-- and a number
abbrev pub numbers_of : PresenceItem → Option (ℕ × ℕ)
numbers_of item = option_and_then numbers_in (option_and_then (rest_after (codes ":")) (rest_after item.conn item.id))

-- NEWNESS

-- by the numbers where both have some, else by the stamps
abbrev pub is_newer_by : Option (ℕ × ℕ) → ℕ → Option (ℕ × ℕ) → ℕ → Bool
is_newer_by (Some a) stamp (Some b) held = nat_lt b.0 a.0 || a.0 == b.0 && nat_lt b.1 a.1
is_newer_by _ stamp _ held = nat_le held stamp

-- the first item is newer than the second
abbrev pub is_newer : PresenceItem → PresenceItem → Bool
is_newer item held = is_newer_by (numbers_of item) item.stamp (numbers_of held) held.stamp
