-- The peers of an array.
use Rattle.zq_settings.proofs.Apart.{distinct_since, none_twice}
use Rattle.zq_settings.proofs.Meant.{known_since, known_from}
use Rattle.zq_settings.proofs.MeantAddresses.{peer_address_since, peer_address_from}
use Rattle.zq_settings.proofs.MeantNumbers.{required_since, required_from}
use Rattle.zq_settings.proofs.Steps.{both_ok, some_since, array_since, table_since}
use Rattle.std.proofs.Common.{◌≡◌, ◌≤◌, ℕ, suc, eqb, ltb, List, [], ◌∷◌, length, Option, Some, None, Result, Ok, Err, refl, ap, ◌∙◌, inl, inr, arith}
use Rattle.std.proofs.lemmas.Bool.{cases_Bool, ltb-false, le-ltb, eqb-false, ne_eqb}
use Rattle.std.specs.Option.{is_some, ok_or}
use Rattle.toml.specs.Data.{Data, Items, no_items, item, Members, array, as_array, as_table}
use Rattle.toml.specs.View.{items_of}
use Rattle.zq_settings.specs.Peers.{sites_of}
use Rattle.zq_settings.specs.Ports.{first_twice}
use Rattle.zq_settings.specs.Settings.{count_of, each, known_keys, site_of}
use Rattle.zq_settings.specs.Site.{apart, peer_address_at, peer_at, peer_of, peers_in, peers_of, unless_met, unless_own}
use Rattle.zq_settings.specs.SiteRules.{AreEach, IsArrayOf, IsPeer, IsPeerTable}
use Rattle.zq_settings.specs.Tables.{value_at}
use Rattle.zq_settings.specs.declared.form.Form.TheVariants as form
use Rattle.zq_settings.specs.declared.key.Key.TheVariants as key
use Rattle.zq_settings.specs.declared.peer.Peer.{Peer}
use Rattle.zq_settings.specs.declared.why.Why.{Why}

-- what each entry is read as
pub each_since : {A : Type 0} (read : Data → Result A Why) (R : Data → A → Type 0) → ((d : Data) (a : A) → read d ≡ Ok a → R d a) → (entries : Items) (all : List A) → each read entries ≡ Ok all → (list : List Data) × (entries ≡ items_of list) × AreEach R list all
each_since read R since no_items [] h = ([], refl, tt)
each_since read R since no_items (first ∷ others) h = cc
each_since read R since (item entry entries) all h =
    let (first, first_read, h1) = both_ok (read entry) _ all h in
    let (others, others_read, h2) = both_ok (each read entries) _ all h1 in
    let whole : first ∷ others ≡ all = cc in
    let (list, same, are) = each_since read R since entries others others_read in
    rw (← whole) (entry ∷ list, ap (item entry) same, (since entry first first_read, are))

pub each_from : {A : Type 0} (read : Data → Result A Why) (R : Data → A → Type 0) → ((d : Data) (a : A) → R d a → read d ≡ Ok a) → (list : List Data) (all : List A) → AreEach R list all → each read (items_of list) ≡ Ok all
each_from read R from [] [] are = refl
each_from read R from [] (first ∷ others) are = absurd are
each_from read R from (entry ∷ list) [] are = absurd are
each_from read R from (entry ∷ list) (first ∷ others) are = rw (from entry first are.0, each_from read R from list others are.1)

pub count_each : {A : Type 0} (R : Data → A → Type 0) (list : List Data) (all : List A) → AreEach R list all → count_of (items_of list) ≡ length all
count_each R [] [] are = refl
count_each R [] (first ∷ others) are = absurd are
count_each R (entry ∷ list) [] are = absurd are
count_each R (entry ∷ list) (first ∷ others) are = ap suc (count_each R list others are.1)

-- the number of another site
other_since : (own number site : ℕ) → unless_own own number ≡ Ok site → (number ≡ site) × ¬ (site ≡ own)
other_since own number site h =
    elim (cases_Bool (eqb number own)) [
      | inl same ↦ let never : Err _ ≡ Ok site = rw same at h in cc
      | inr other ↦
          let is : number ≡ site = let there : Ok number ≡ Ok site = rw other at h in cc in
          (is, λ own_is. eqb-false number own other (is ∙ own_is))
    ]

other_from : (own site : ℕ) → ¬ (site ≡ own) → unless_own own site ≡ Ok site
other_from own site other = rw (ne_eqb site own other)

-- a peer
peer_table_since : (own : ℕ) (secret : Option (List ℕ)) (table : Members) (peer : Peer) → peer_at own (is_some secret) table ≡ Ok peer → IsPeerTable own secret table peer
peer_table_since own secret table peer h =
    let (known, known_read, h1) = both_ok (known_keys form.Peer table) _ peer h in
    let (number, number_read, h2) = both_ok (site_of key.PeerSite (value_at key.PeerSite table)) _ peer h1 in
    let (site, site_read, h3) = both_ok (unless_own own number) _ peer h2 in
    let (address, address_read, h4) = both_ok (peer_address_at (is_some secret) (value_at key.PeerAddress table)) _ peer h3 in
    let (same, other) = other_since own number site site_read in
    let whole : record { site = site; address = address } ≡ peer = cc in
    rw (← whole) (record {
      known = known_since form.Peer table known known_read;
      site = required_since key.PeerSite 0 63 site _ (number_read ∙ ap Ok same);
      other = other;
      address = peer_address_since secret _ address address_read;
    })

peer_table_from : (own : ℕ) (secret : Option (List ℕ)) (table : Members) (peer : Peer) → IsPeerTable own secret table peer → peer_at own (is_some secret) table ≡ Ok peer
peer_table_from own secret table peer is =
    rw (
      known_from form.Peer table is.known,
      required_from key.PeerSite 0 63 peer.site _ is.site,
      other_from own peer.site is.other,
      peer_address_from secret _ peer.address is.address,
    )

pub peer_since : (own : ℕ) (secret : Option (List ℕ)) (entry : Data) (peer : Peer) → peer_of own (is_some secret) entry ≡ Ok peer → IsPeer own secret entry peer
peer_since own secret entry peer h =
    let (table, a_table, read) = both_ok (ok_or (as_table entry) _) (peer_at own (is_some secret)) peer h in
    (table, table_since entry table (some_since _ _ table a_table), peer_table_since own secret table peer read)

peer_from : (own : ℕ) (secret : Option (List ℕ)) (entry : Data) (peer : Peer) → IsPeer own secret entry peer → peer_of own (is_some secret) entry ≡ Ok peer
peer_from own secret entry peer (table, is, is_peer) = rw is (peer_table_from own secret table peer is_peer)

-- the peers
pub met_since : (twice : Option ℕ) (read peers : List Peer) → unless_met twice read ≡ Ok peers → (twice ≡ None) × (read ≡ peers)
met_since None read peers h = (refl, cc)
met_since (Some site) read peers h = cc

pub peers_since : (own : ℕ) (secret : Option (List ℕ)) (peers : List Peer) (value : Option Data) → peers_of own (is_some secret) value ≡ Ok peers → IsArrayOf own secret value peers
peers_since own secret peers None h = let none : peers ≡ [] = cc in inl (refl, none)
peers_since own secret peers (Some d) h =
    let (entries, an_array, read) = both_ok (ok_or (as_array d) _) (peers_in own (is_some secret)) peers h in
    elim (cases_Bool (ltb 63 (count_of entries))) [
      | inl many ↦ let none : Err _ ≡ Ok peers = rw many at read in cc
      | inr few ↦
          let (all, all_read, met) = both_ok (each (peer_of own (is_some secret)) entries) apart peers (rw few at read) in
          let (once, same) = met_since (first_twice (sites_of all)) all peers met in
          let (list, as_list, are) = each_since (peer_of own (is_some secret)) (IsPeer own secret) (peer_since own secret) entries all all_read in
          let seen : d ≡ array entries = array_since d entries (some_since _ _ entries an_array) in
          let counted : count_of entries ≡ length all = ap count_of as_list ∙ count_each (IsPeer own secret) list all are in
          let at_most : count_of entries ≤ 63 = ltb-false 63 (count_of entries) few in
          let highest : length all ≤ 63 = omega (arith, counted, at_most) in
          rw (← same) (inr (list, ap Some (seen ∙ ap array as_list), are, (highest, distinct_since (sites_of all) once)))
    ]

pub peers_from : (own : ℕ) (secret : Option (List ℕ)) (peers : List Peer) (value : Option Data) → IsArrayOf own secret value peers → peers_of own (is_some secret) value ≡ Ok peers
peers_from own secret peers value (inl (none, same)) = rw (none, same)
peers_from own secret peers value (inr (list, some, are, (highest, distinct))) =
    let counted : count_of (items_of list) ≡ length peers = count_each (IsPeer own secret) list peers are in
    rw (
      some,
      counted,
      le-ltb 63 (length peers) highest,
      each_from (peer_of own (is_some secret)) (IsPeer own secret) (peer_from own secret) list peers are,
      none_twice (sites_of peers) distinct,
    )
