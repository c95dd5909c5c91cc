-- The values of keys that take an address or a secret.
use Rattle.zq_settings.proofs.NamedTexts.{local_peer_from, local_peer_since, peer_text_from, peer_text_since}
use Rattle.zq_settings.proofs.Spelled.{address_since, address_from, ip_since, ip_from, loopback_since, loopback_from}
use Rattle.zq_settings.proofs.Steps.{both_ok, some_since, text_since}
use Rattle.std.proofs.Common.{◌≡◌, ℕ, Bool, true, false, ltb, List, length, Option, Some, None, Ok, Err, refl, ap, inl, inr}
use Rattle.std.proofs.lemmas.Bool.{cases_Bool, ltb-false, le-ltb}
use Rattle.std.specs.Option.{is_some, ok_or}
use Rattle.std.specs.declared.net.ip_addr.IpAddr.{IpAddr}
use Rattle.std.specs.declared.net.socket_addr.SocketAddr.{SocketAddr}
use Rattle.toml.specs.Data.{Data, as_str}
use Rattle.zq_settings.specs.Addresses.{IsLoopback, address_of, is_local}
use Rattle.zq_settings.specs.PeerAddresses.{IsLocalPeer, is_local_peer, peer_address_of}
use Rattle.zq_settings.specs.Site.{unless_exposed, address_at, bind_of, peer_address_at, unless_far, unless_short, secret_of}
use Rattle.zq_settings.specs.SiteRules.{IsAddress, IsBind, IsPeerAddress, IsSecret}
use Rattle.zq_settings.specs.declared.key.Key.{Key}
use Rattle.zq_settings.specs.declared.peer_address.PeerAddress.{PeerAddress}

-- an address that is taken
unexposed_since : (secured : Bool) (key : Key) (b a : SocketAddr) → unless_exposed secured key b ≡ Ok a → (b ≡ a) × (secured ≡ false → is_local b ≡ true)
unexposed_since true key b a h = (cc, λ never. cc)
unexposed_since false key b a h =
    elim (cases_Bool (is_local b)) [
      | inl local ↦
          let same : b ≡ a = let there : Ok b ≡ Ok a = rw local at h in cc in
          (same, λ none. local)
      | inr other ↦ let never : Err _ ≡ Ok a = rw other at h in cc
    ]

unexposed_from : (secret : Option (List ℕ)) (key : Key) (a : SocketAddr) → (secret ≡ None → is_local a ≡ true) → unless_exposed (is_some secret) key a ≡ Ok a
unexposed_from (Some text) key a h = refl
unexposed_from None key a h = rw (h refl)

pub address_at_since : (secret : Option (List ℕ)) (key : Key) (value : Option Data) (a : SocketAddr) → address_at (is_some secret) key value ≡ Ok a → IsAddress secret value a
address_at_since secret key None a h = cc
address_at_since secret key (Some d) a h =
    let (text, is_text, h1) = both_ok (ok_or (as_str d) _) _ a h in
    let (b, written, h2) = both_ok (ok_or (address_of text) _) (unless_exposed (is_some secret) key) a h1 in
    let (same, local) = unexposed_since (is_some secret) key b a h2 in
    let (spells, low) = address_since text b (some_since _ _ b written) in
    let loopback : secret ≡ None → IsLoopback b = λ none. loopback_since b (local (ap is_some none)) in
    rw (← same) (text, ap Some (text_since d text (some_since _ _ text is_text)), spells, low, loopback)

pub address_at_from : (secret : Option (List ℕ)) (key : Key) (value : Option Data) (a : SocketAddr) → IsAddress secret value a → address_at (is_some secret) key value ≡ Ok a
address_at_from secret key value a (text, some, spells, low, local) =
    rw (some, address_from text a spells low) (unexposed_from secret key a (λ none. loopback_from a (local none)))

-- the address of a peer
far_since : (secured : Bool) (b a : PeerAddress) → unless_far secured b ≡ Ok a → (b ≡ a) × (secured ≡ false → is_local_peer b ≡ true)
far_since true b a h = (cc, λ never. cc)
far_since false b a h =
    elim (cases_Bool (is_local_peer b)) [
      | inl local ↦
          let same : b ≡ a = let there : Ok b ≡ Ok a = rw local at h in cc in
          (same, λ none. local)
      | inr other ↦ let never : Err _ ≡ Ok a = rw other at h in cc
    ]

far_from : (secret : Option (List ℕ)) (a : PeerAddress) → (secret ≡ None → is_local_peer a ≡ true) → unless_far (is_some secret) a ≡ Ok a
far_from (Some text) a h = refl
far_from None a h = rw (h refl)

pub peer_address_since : (secret : Option (List ℕ)) (value : Option Data) (a : PeerAddress) → peer_address_at (is_some secret) value ≡ Ok a → IsPeerAddress secret value a
peer_address_since secret None a h = cc
peer_address_since secret (Some d) a h =
    let (text, is_text, h1) = both_ok (ok_or (as_str d) _) _ a h in
    let (b, written, h2) = both_ok (ok_or (peer_address_of text) _) (unless_far (is_some secret)) a h1 in
    let (same, local) = far_since (is_some secret) b a h2 in
    let spells = peer_text_since text b (some_since _ _ b written) in
    let near : secret ≡ None → IsLocalPeer b = λ none. local_peer_since b (local (ap is_some none)) in
    rw (← same) (text, ap Some (text_since d text (some_since _ _ text is_text)), spells, near)

pub peer_address_from : (secret : Option (List ℕ)) (value : Option Data) (a : PeerAddress) → IsPeerAddress secret value a → peer_address_at (is_some secret) value ≡ Ok a
peer_address_from secret value a (text, some, spells, local) =
    rw (some, peer_text_from text a spells) (far_from secret a (λ none. local_peer_from a (local none)))

pub bind_since : (ip : IpAddr) (value : Option Data) → bind_of value ≡ Ok ip → IsBind value ip
bind_since ip None h = inl (refl, cc)
bind_since ip (Some d) h =
    let (text, is_text, written) = both_ok (ok_or (as_str d) _) _ ip h in
    inr (text, ap Some (text_since d text (some_since _ _ text is_text)), ip_since text ip (some_since _ _ ip written))

pub bind_from : (ip : IpAddr) (value : Option Data) → IsBind value ip → bind_of value ≡ Ok ip
bind_from ip value (inl (none, same)) = rw (none, same)
bind_from ip value (inr (text, some, spells)) = rw (some, ip_from text ip spells)

pub secret_since : (secret : Option (List ℕ)) (value : Option Data) → secret_of value ≡ Ok secret → IsSecret value secret
secret_since secret None h = let none : secret ≡ None = cc in inl (refl, none)
secret_since secret (Some d) h =
    let (text, is_text, long) = both_ok (ok_or (as_str d) _) unless_short secret h in
    elim (cases_Bool (ltb (length text) 16)) [
      | inl short ↦ let never : Err _ ≡ Ok secret = rw short at long in cc
      | inr enough ↦
          let same : secret ≡ Some text = let there : Ok (Some text) ≡ Ok secret = rw enough at long in cc in
          inr (text, ap Some (text_since d text (some_since _ _ text is_text)), ltb-false (length text) 16 enough, same)
    ]

pub secret_from : (secret : Option (List ℕ)) (value : Option Data) → IsSecret value secret → secret_of value ≡ Ok secret
secret_from secret value (inl (none, same)) = rw (none, same)
secret_from secret value (inr (text, some, least, same)) = rw (some, le-ltb (length text) 16 least, same)
