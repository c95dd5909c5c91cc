-- The address that a text writes is the one that the library's grammar gives it.
use Rattle.std.proofs.Common.{◌≡◌, ◌≤◌, ◌⊎◌, ℕ, true, eqb, List, [], ◌∷◌, ◌++◌, length, take, Option, Some, None, Result, Ok, Err, option_map, refl, sym, ap, ◌∙◌, subst, inl, inr, append-nil, lit≤, ne_eqb, arith}
use Rattle.std.proofs.NetLemmas.Ipv4.{read_ipv4_complete, read_ipv4_sound}
use Rattle.std.proofs.NetLemmas.Ipv6.{EndsGroups-nil, IsDotted-not_colon_hex, read_ipv6_complete, read_ipv6_sound}
use Rattle.std.proofs.NetLemmas.Sockets.{IsSocketV4Text-not_v6, read_socket_v4_complete, read_socket_v4_sound, read_socket_v6_complete, read_socket_v6_sound}
use Rattle.std.proofs.lemmas.Bool.{cases_Bool, eqb-true, eqb-false}
use Rattle.std.proofs.lemmas.Slice.Eq.{bytes_eq-Decides}
use Rattle.std.specs.Net.Addr.{ipv4_octets, ipv6_segments}
use Rattle.std.specs.Net.Grammar.{IsIpText, IsSocketText, Parses}
use Rattle.std.specs.Net.Reader.{Read, read_ipv4, read_ipv6, read_socket_v4, read_socket_v6, v4_parts, v6_parts, whole_value}
use Rattle.std.specs.Net.Socket.{socket_port}
use Rattle.std.specs.Result.{result_ok}
use Rattle.std.specs.declared.net.ip_addr.IpAddr.{IpAddr}
use Rattle.std.specs.declared.net.ip_addr.IpAddr.TheVariants as ip
use Rattle.std.specs.declared.net.socket_addr.SocketAddr.{SocketAddr}
use Rattle.std.specs.declared.net.socket_addr.SocketAddr.TheVariants as socket
use Rattle.zq_settings.specs.Addresses.{IsLoopback, IsNoAddress, first_of_two, v4, v6, ip_of, socket_v4, socket_v6, socket_of, unless_zero, address_of, is_local}
use Rattle.zq_settings.specs.Breaks.{IsNoIp}

-- what was read of a whole text
whole_since : {A : Type 0} (r : Read A) (a : A) → whole_value r ≡ Some a → r ≡ Some (a, [])
whole_since None a h = cc
whole_since (Some (x, [])) a h = let same : x ≡ a = cc in ap (λ y. Some (y, [])) same
whole_since (Some (x, (c ∷ rest))) a h = let none : None ≡ Some a = rw (ne_eqb (length (c ∷ rest)) 0 (omega arith)) at h in cc

-- the first of two, or the second
pub either_since : {A : Type 0} (first second : Option A) (a : A) → first_of_two first second ≡ Some a → (first ≡ Some a) ⊎ ((first ≡ None) × (second ≡ Some a))
either_since (Some x) second a h = inl h
either_since None second a h = inr (refl, h)

pub mapped_since : {A B : Type 0} (f : A → B) (o : Option A) (b : B) → option_map f o ≡ Some b → (a : A) × (o ≡ Some a) × (f a ≡ b)
mapped_since f (Some a) b h = (a, refl, cc)
mapped_since f None b h = cc

-- an address with a port
socket_v4_since : (text : List ℕ) (parts : List ℕ × ℕ) → whole_value (read_socket_v4 text) ≡ Some parts → IsSocketText text (socket_v4 parts)
socket_v4_since text parts h =
    let (front, split, spells) = read_socket_v4_sound text [] (record { ip = record { octets = parts.0 }; port = parts.1 }) (whole_since _ parts h) in
    subst (λ t. IsSocketText t (socket_v4 parts)) (sym (split ∙ append-nil front)) spells

socket_v6_since : (text : List ℕ) (parts : List ℕ × ℕ × ℕ × ℕ) → whole_value (read_socket_v6 text) ≡ Some parts → IsSocketText text (socket_v6 parts)
socket_v6_since text parts h =
    let (front, split, spells) = read_socket_v6_sound text [] (record { ip = record { segments = parts.0 }; port = parts.1; flowinfo = parts.2; scope_id = parts.3 }) (whole_since _ parts h) in
    subst (λ t. IsSocketText t (socket_v6 parts)) (sym (split ∙ append-nil front)) spells

pub socket_since : (text : List ℕ) (a : SocketAddr) → socket_of text ≡ Some a → IsSocketText text a
socket_since text a h =
    elim (either_since (option_map socket_v4 (whole_value (read_socket_v4 text))) _ a h) [
      | inl first ↦
          let (parts, read, same) = mapped_since socket_v4 _ a first in
          subst (IsSocketText text) same (socket_v4_since text parts read)
      | inr second ↦
          let (parts, read, same) = mapped_since socket_v6 _ a second.1 in
          subst (IsSocketText text) same (socket_v6_since text parts read)
    ]

no_v4 : (text : List ℕ) (read : Option (List ℕ × ℕ)) → whole_value (read_socket_v4 text) ≡ read → ((parts : List ℕ × ℕ) → ¬ IsSocketText text (socket_v4 parts)) → read ≡ None
no_v4 text None h none = refl
no_v4 text (Some parts) h none = absurd (none parts (socket_v4_since text parts h))

pub socket_from : (text : List ℕ) (a : SocketAddr) → IsSocketText text a → socket_of text ≡ Some a
socket_from text (socket.V4 a) spells =
    let whole : whole_value (read_socket_v4 text) ≡ Some (v4_parts a) = rw (read_socket_v4_complete text a spells) in
    rw whole
socket_from text (socket.V6 a) spells =
    let whole : whole_value (read_socket_v6 text) ≡ Some (v6_parts a) = rw (read_socket_v6_complete text a spells) in
    let none : whole_value (read_socket_v4 text) ≡ None = no_v4 text _ refl (λ parts other. IsSocketV4Text-not_v6 text _ a other spells) in
    rw (none, whole)

-- with a port that is not 0
pub address_since : (text : List ℕ) (a : SocketAddr) → address_of text ≡ Some a → IsSocketText text a × (1 ≤ socket_port a)
address_since text a h = kept_since (socket_of text) refl h where
  kept_since : (o : Option SocketAddr) → socket_of text ≡ o → unless_zero o ≡ Some a → IsSocketText text a × (1 ≤ socket_port a)
  kept_since None read kept = cc
  kept_since (Some b) read kept =
      elim (cases_Bool (eqb (socket_port b) 0)) [
        | inl zero ↦ let none : None ≡ Some a = rw zero at kept in cc
        | inr other ↦
            let same : b ≡ a = let there : Some b ≡ Some a = rw other at kept in cc in
            let not_zero : socket_port b ≡ 0 → ⊥ = eqb-false (socket_port b) 0 other in
            let low : 1 ≤ socket_port b = omega (arith, not_zero) in
            rw (← same) (socket_since text b read, low)
      ]

pub address_from : (text : List ℕ) (a : SocketAddr) → IsSocketText text a → 1 ≤ socket_port a → address_of text ≡ Some a
address_from text a spells low = rw (socket_from text a spells, ne_eqb (socket_port a) 0 (λ zero. omega (arith, zero, low)))

pub no_address : (text : List ℕ) → address_of text ≡ None → IsNoAddress text
no_address text none a spells =
    elim (cases_Bool (eqb (socket_port a) 0)) [
      | inl zero ↦ eqb-true (socket_port a) 0 zero
      | inr other ↦ let never : Some a ≡ None = rw (socket_from text a spells, other) at none in cc
    ]

-- an address without a port
ip_v4_since : (text octets : List ℕ) → whole_value (read_ipv4 text) ≡ Some octets → IsIpText text (v4 octets)
ip_v4_since text octets h =
    let (front, split, spells) = read_ipv4_sound text octets [] (whole_since _ octets h) in
    subst (λ t. IsIpText t (v4 octets)) (sym (split ∙ append-nil front)) spells

ip_v6_since : (text segments : List ℕ) → whole_value (read_ipv6 text) ≡ Some segments → IsIpText text (v6 segments)
ip_v6_since text segments h =
    let (front, split, spells) = read_ipv6_sound text segments [] (whole_since _ segments h) in
    subst (λ t. IsIpText t (v6 segments)) (sym (split ∙ append-nil front)) spells

pub ip_since : (text : List ℕ) (a : IpAddr) → ip_of text ≡ Some a → IsIpText text a
ip_since text a h =
    elim (either_since (option_map v4 (whole_value (read_ipv4 text))) _ a h) [
      | inl first ↦
          let (octets, read, same) = mapped_since v4 _ a first in
          subst (IsIpText text) same (ip_v4_since text octets read)
      | inr second ↦
          let (segments, read, same) = mapped_since v6 _ a second.1 in
          subst (IsIpText text) same (ip_v6_since text segments read)
    ]

no_ip_v4 : (text : List ℕ) (read : Option (List ℕ)) → whole_value (read_ipv4 text) ≡ read → ((octets : List ℕ) → ¬ IsIpText text (v4 octets)) → read ≡ None
no_ip_v4 text None h none = refl
no_ip_v4 text (Some octets) h none = absurd (none octets (ip_v4_since text octets h))

whole_ip_v4 : (text octets : List ℕ) → IsIpText text (v4 octets) → whole_value (read_ipv4 text) ≡ Some octets
whole_ip_v4 text octets spells =
    let read : read_ipv4 (text ++ []) ≡ Some (octets, []) = read_ipv4_complete text octets [] spells (lit≤ tt) in
    let there : read_ipv4 text ≡ Some (octets, []) = rw (append-nil text) at read in
    rw there

whole_ip_v6 : (text segments : List ℕ) → IsIpText text (v6 segments) → whole_value (read_ipv6 text) ≡ Some segments
whole_ip_v6 text segments spells =
    let read : read_ipv6 (text ++ []) ≡ Some (segments, []) = read_ipv6_complete text segments [] spells EndsGroups-nil in
    let there : read_ipv6 text ≡ Some (segments, []) = rw (append-nil text) at read in
    rw there

pub ip_from : (text : List ℕ) (a : IpAddr) → IsIpText text a → ip_of text ≡ Some a
ip_from text (ip.V4 a) spells = rw (whole_ip_v4 text (ipv4_octets a) spells)
ip_from text (ip.V6 a) spells =
    let none : whole_value (read_ipv4 text) ≡ None = no_ip_v4 text _ refl (λ octets other. IsDotted-not_colon_hex text _ _ other spells) in
    rw (none, whole_ip_v6 text (ipv6_segments a) spells)

pub no_ip : (text : List ℕ) → ip_of text ≡ None → IsNoIp text
no_ip text none a spells = let never : Some a ≡ None = sym (ip_from text a spells) ∙ none in cc

-- what the library's parser gives
pub socket_parsed : {E : Type 0} (text : List ℕ) (r : Result SocketAddr E) → Parses IsSocketText text r → result_ok r ≡ socket_of text
socket_parsed text (Ok a) parsed = sym (socket_from text a parsed)
socket_parsed text (Err e) parsed = sym (none_of (socket_of text) refl) where
  none_of : (o : Option SocketAddr) → socket_of text ≡ o → o ≡ None
  none_of None read = refl
  none_of (Some a) read = absurd (parsed a (socket_since text a read))

pub ip_parsed : {E : Type 0} (text : List ℕ) (r : Result IpAddr E) → Parses IsIpText text r → result_ok r ≡ ip_of text
ip_parsed text (Ok a) parsed = sym (ip_from text a parsed)
ip_parsed text (Err e) parsed = sym (none_of (ip_of text) refl) where
  none_of : (o : Option IpAddr) → ip_of text ≡ o → o ≡ None
  none_of None read = refl
  none_of (Some a) read = absurd (parsed a (ip_since text a read))

-- loopback addresses
pub loopback_since : (a : SocketAddr) → is_local a ≡ true → IsLoopback a
loopback_since (socket.V4 a) h = (bytes_eq-Decides (take 1 (ipv4_octets a.ip)) (127 ∷ [])).0 h
loopback_since (socket.V6 a) h = (bytes_eq-Decides (ipv6_segments a.ip) (0 ∷ 0 ∷ 0 ∷ 0 ∷ 0 ∷ 0 ∷ 0 ∷ 1 ∷ [])).0 h

pub loopback_from : (a : SocketAddr) → IsLoopback a → is_local a ≡ true
loopback_from (socket.V4 a) h = (bytes_eq-Decides (take 1 (ipv4_octets a.ip)) (127 ∷ [])).1 h
loopback_from (socket.V6 a) h = (bytes_eq-Decides (ipv6_segments a.ip) (0 ∷ 0 ∷ 0 ∷ 0 ∷ 0 ∷ 0 ∷ 0 ∷ 1 ∷ [])).1 h
