-- The name and the port that a text writes.
use Rattle.zq_settings.proofs.HostBytes.{after_colon, all_digits, before_colon, decimals, dotted_bytes, dotted_is_no_host, host_bytes, is_host_byte, no_colon, some_digits}
use Rattle.zq_settings.proofs.Spelled.{address_from, address_since, either_since, loopback_from, loopback_since, mapped_since}
use Rattle.std.proofs.Common.{◌+◌, ◌≡◌, ◌≤◌, ◌<◌, ℕ, Bool, true, false, eqb, leb, not, List, [], ◌∷◌, ◌++◌, codes, get_or, length, map, option_map, Option, Some, None, refl, sym, ap, ◌∙◌, subst, arith, inl, inr}
use Rattle.std.proofs.lemmas.Bool.{and_parts, cases_Bool, eqb-true, leb-true, le-leb}
use Rattle.std.proofs.lemmas.List.{length-drop}
use Rattle.std.proofs.lemmas.List.Sums.{prefix_len_stops, split_at_first}
use Rattle.std.proofs.lemmas.Slice.Eq.{bytes_eq-Decides}
use Rattle.std.specs.Char.{is_ascii_digit, to_ascii_lowercase}
use Rattle.std.specs.List.{after_first, before_first, list_all, position_or_len}
use Rattle.std.specs.Net.Grammar.{IsNumber, IsSocketText}
use Rattle.std.specs.Str.Parse.{AllDigits, digits_value}
use Rattle.std.specs.declared.net.socket_addr.SocketAddr.{SocketAddr}
use Rattle.std.specs.declared.net.socket_addr.SocketAddr.TheVariants as socket
use Rattle.zq_settings.specs.Addresses.{address_of}
use Rattle.zq_settings.specs.Hosts.{IsHost, colon, is_host, is_port_text, named_in, port_in}
use Rattle.zq_settings.specs.PeerAddresses.{IsLocalPeer, IsNamedText, IsPeerText, is_local_peer, named, peer_address_of}
use Rattle.zq_settings.specs.declared.peer_address.PeerAddress.{PeerAddress}
use Rattle.zq_settings.specs.declared.peer_address.PeerAddress.TheVariants.{Ip, Named}

-- a port
port_since : (text : List ℕ) (port : ℕ) → port_in text ≡ Some port → IsNumber 10 text port × (1 ≤ port) × (port ≤ 65535)
port_since text port h =
    elim (cases_Bool (is_port_text text)) [
      | inl is ↦
          let same : digits_value 10 text ≡ port = let there : Some (digits_value 10 text) ≡ Some port = rw is at h in cc in
          let (digits, bounds) = and_parts (list_all is_ascii_digit text) _ is in
          let (least, most) = and_parts (leb 1 (digits_value 10 text)) _ bounds in
          let low : 1 ≤ digits_value 10 text = leb-true 1 (digits_value 10 text) least in
          let high : digits_value 10 text ≤ 65535 = leb-true (digits_value 10 text) 65535 most in
          let are : AllDigits 10 text = decimals.to text (sym (all_digits text) ∙ digits) in
          (((some_digits text low, are), same), omega (arith, low, same), omega (arith, high, same))
      | inr none ↦ let never : None ≡ Some port = rw none at h in cc
    ]

port_from : (text : List ℕ) (port : ℕ) → IsNumber 10 text port → 1 ≤ port → port ≤ 65535 → port_in text ≡ Some port
port_from text port is low high =
    let digits : list_all is_ascii_digit text ≡ true = all_digits text ∙ decimals.from text is.0.1 in
    rw (digits, is.1, le-leb 1 port low, le-leb port 65535 high)

-- a text that has something behind a colon
turned : (b : Bool) → not b ≡ false → b ≡ true
turned true h = refl
turned false h = cc

split_text : (text : List ℕ) → 0 < length (after_first (λ b. eqb b colon) text) → text ≡ before_first (λ b. eqb b colon) text ++ colon ∷ after_first (λ b. eqb b colon) text
split_text text some =
    let p = λ (b : ℕ). eqb b colon in
    let within : position_or_len p text < length text = omega (arith, some, length-drop (position_or_len p text + 1) text) in
    let passes = turned (eqb (get_or text (position_or_len p text) 0) colon) (prefix_len_stops (λ b. not (p b)) text 0 within) in
    let is : get_or text (position_or_len p text) 0 ≡ colon = eqb-true _ colon passes in
    split_at_first p text 0 within ∙ ap (λ c. before_first p text ++ c ∷ after_first p text) is

-- a name and a port
abbrev paired : List ℕ → ℕ → List ℕ × ℕ
paired name port = (name, port)

named_since : (text name : List ℕ) (port : ℕ) → named_in text ≡ Some (name, port) → IsNamedText text name port
named_since text name port h =
    let before : List ℕ = before_first (λ b. eqb b colon) text in
    let after : List ℕ = after_first (λ b. eqb b colon) text in
    elim (cases_Bool (is_host before)) [
      | inl host ↦
          let (found, read, same) = mapped_since (paired before) (port_in after) (paired name port) (rw host at h) in
          let same_name : before ≡ name = ap (λ (x : List ℕ × ℕ). x.0) same in
          let same_port : found ≡ port = ap (λ (x : List ℕ × ℕ). x.1) same in
          let (is, low, high) = port_since after found read in
          let split : text ≡ name ++ colon ∷ after = split_text text is.0.0 ∙ ap (λ n. n ++ colon ∷ after) same_name in
          (after, split, subst IsHost same_name host, subst (IsNumber 10 after) same_port is, omega (arith, low, same_port), omega (arith, high, same_port))
      | inr none ↦ let never : None ≡ Some (paired name port) = rw none at h in cc
    ]

named_from : (text name : List ℕ) (port : ℕ) → IsNamedText text name port → named_in text ≡ Some (name, port)
named_from text name port (digits, split, host, number, low, high) =
    let none = no_colon name (host_bytes name host) in
    rw (split, before_colon name digits none, after_colon name digits none, host, port_from digits port number low high)

-- no text writes both an IP address and a name, with a port
bracketed : (name others text : List ℕ) → name ++ colon ∷ others ≡ text → get_or text 0 0 ≡ 91 → list_all is_host_byte name ≡ true → ⊥
bracketed [] others text same head bytes = let never : colon ≡ 91 = ap (λ t. get_or t 0 0) same ∙ head in omega (arith, never)
bracketed (b ∷ bs) others text same head bytes =
    let is : b ≡ 91 = ap (λ t. get_or t 0 0) same ∙ head in
    let here = (and_parts (is_host_byte b) (list_all is_host_byte bs) bytes).0 in
    let never : false ≡ true = subst (λ c. is_host_byte c ≡ true) is here in
    cc

apart : (text : List ℕ) (a : SocketAddr) (name : List ℕ) (port : ℕ) → IsSocketText text a → IsNamedText text name port → ⊥
apart text (socket.V4 a) name port (ip, behind, split, dotted, (digits, written, number, fits)) (others, again, host, numeral, low, high) =
    let none = no_colon name (host_bytes name host) in
    let none_too = no_colon ip (dotted_bytes ip _ dotted) in
    let whole : ip ++ colon ∷ digits ≡ name ++ colon ∷ others = sym (split ∙ ap (λ b. ip ++ b) written) ∙ again in
    let same : ip ≡ name = sym (before_colon ip digits none_too) ∙ ap (λ t. before_first (λ b. eqb b colon) t) whole ∙ before_colon name others none in
    dotted_is_no_host ip _ dotted (subst IsHost (sym same) host)
apart text (socket.V6 a) name port spells (others, again, host, numeral, low, high) = bracketed name others text (sym again) (ap (λ t. get_or t 0 0) spells.spelled) (host_bytes name host)

-- the address of a peer
pub peer_text_since : (text : List ℕ) (a : PeerAddress) → peer_address_of text ≡ Some a → IsPeerText text a
peer_text_since text a h =
    elim (either_since (option_map Ip (address_of text)) (option_map named (named_in text)) a h) [
      | inl first ↦
          let (b, read, same) = mapped_since Ip (address_of text) a first in
          subst (IsPeerText text) same (address_since text b read)
      | inr second ↦
          let (parts, read, same) = mapped_since named (named_in text) a second.1 in
          subst (IsPeerText text) same (named_since text parts.0 parts.1 read)
    ]

none_of_both : (text name : List ℕ) (port : ℕ) (o : Option SocketAddr) → address_of text ≡ o → IsNamedText text name port → o ≡ None
none_of_both text name port None read is = refl
none_of_both text name port (Some a) read is = absurd (apart text a name port (address_since text a read).0 is)

pub peer_text_from : (text : List ℕ) (a : PeerAddress) → IsPeerText text a → peer_address_of text ≡ Some a
peer_text_from text (Ip b) (spells, low) = rw (address_from text b spells low)
peer_text_from text (Named name port) is = rw (none_of_both text name port (address_of text) refl is, named_from text name port is)

-- an address of this host alone
pub local_peer_since : (a : PeerAddress) → is_local_peer a ≡ true → IsLocalPeer a
local_peer_since (Ip address) h = loopback_since address h
local_peer_since (Named name port) h = (bytes_eq-Decides (map to_ascii_lowercase name) (codes "localhost")).0 h

pub local_peer_from : (a : PeerAddress) → IsLocalPeer a → is_local_peer a ≡ true
local_peer_from (Ip address) h = loopback_from address h
local_peer_from (Named name port) h = (bytes_eq-Decides (map to_ascii_lowercase name) (codes "localhost")).1 h
