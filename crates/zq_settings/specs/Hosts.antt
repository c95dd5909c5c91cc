-- The names of hosts, and the ports behind them.
use Rattle.std.specs.Prelude.{◌≡◌, ◌&&◌, ◌||◌, ◌==◌, ◌-◌, ℕ, Bool, List, None, Option, Some, codes, if◌then◌else◌, length, map, nat_le, not, option_map, slice_index, true}
use Rattle.std.specs.Char.{is_ascii_alphanumeric, is_ascii_digit, to_ascii_lowercase}
use Rattle.std.specs.List.{after_first, after_last, before_first, list_all, slice_split}
use Rattle.std.specs.Str.{bytes_eq}
use Rattle.std.specs.Str.Parse.{digits_value}

-- these bytes, by the characters that they write
abbrev pub hyphen : ℕ
hyphen = 45

abbrev pub dot : ℕ
dot = 46

abbrev pub colon : ℕ
colon = 58

abbrev pub underscore : ℕ
underscore = 95

-- a letter or a digit of ASCII, a hyphen or an underscore
abbrev pub is_name_byte : ℕ → Bool
is_name_byte byte = is_ascii_alphanumeric byte || (byte == hyphen || byte == underscore)

-- a hyphen stands first or last
abbrev pub has_hyphen_end : List ℕ → Bool
has_hyphen_end label =
    slice_index label 0 == hyphen || slice_index label (length label - 1) == hyphen

-- 1 to 63 such bytes, of which neither the first nor the last is a hyphen
abbrev pub is_label : List ℕ → Bool
is_label label = nat_le 1 (length label) && (nat_le (length label) 63
    && (list_all is_name_byte label && not (has_hyphen_end label)))

-- what stands between the dots of a name, before the first and behind the last
abbrev pub labels_of : List ℕ → List (List ℕ)
labels_of name = slice_split (λ byte. byte == dot) name

-- each of these is a label
abbrev pub are_labels : List (List ℕ) → Bool
are_labels labels = list_all is_label labels

-- what stands behind the last dot of a name, or all of it where it has none
abbrev pub last_label : List ℕ → List ℕ
last_label name = after_last (λ byte. byte == dot) name

-- the last label is of digits alone, as in 127.1
abbrev pub ends_in_number : List ℕ → Bool
ends_in_number name = list_all is_ascii_digit (last_label name)

-- the name of a host: at most 253 bytes of labels joined by dots, of which the last is no number
abbrev pub is_host : List ℕ → Bool
is_host name = nat_le (length name) 253
    && (are_labels (labels_of name) && not (ends_in_number name))

abbrev pub IsHost : List ℕ → Type 0
IsHost name = is_host name ≡ true

-- `localhost`, in small letters or in capital ones
abbrev pub is_localhost : List ℕ → Bool
is_localhost name = bytes_eq (map to_ascii_lowercase name) (codes "localhost")

-- the port that a text of decimal digits writes, from 1 to 65535
abbrev pub is_port_text : List ℕ → Bool
is_port_text text = list_all is_ascii_digit text && (nat_le 1 (digits_value 10 text)
    && nat_le (digits_value 10 text) 65535)

abbrev pub port_in : List ℕ → Option ℕ
port_in text = if is_port_text text then Some (digits_value 10 text) else None

-- the name and the port, where the one text is the name of a host and the other writes a port
abbrev pub named_parts : List ℕ → List ℕ → Option (List ℕ × ℕ)
named_parts name digits =
    if is_host name then option_map (λ port. (name, port)) (port_in digits) else None

-- the name of a host before the first colon of a text, and the port behind it
abbrev pub named_in : List ℕ → Option (List ℕ × ℕ)
named_in text = named_parts (before_first (λ byte. byte == colon) text)
    (after_first (λ byte. byte == colon) text)
