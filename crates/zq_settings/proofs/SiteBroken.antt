-- A table is refused as the settings of one site for a rule that it breaks.
use Rattle.zq_settings.proofs.AddressFaults.{AddressFault, address_fault}
use Rattle.zq_settings.proofs.Broken.{repeated}
use Rattle.zq_settings.proofs.MeantAccept.{accept_fault}
use Rattle.zq_settings.proofs.AdminBroken.{admin_keys_break}
use Rattle.zq_settings.proofs.MeantData.{data_keys_break}
use Rattle.zq_settings.proofs.MeantLogLevel.{log_level_fault}
use Rattle.zq_settings.proofs.Faults.{HasFault, by_steps, common_fault, count_listed, listed, number_fault, required_fault, rule_fault, unknown_fault}
use Rattle.zq_settings.proofs.MeantAddresses.{bind_since, secret_since}
use Rattle.zq_settings.proofs.MeantNumbers.{required_since}
use Rattle.zq_settings.proofs.MeantPeers.{each_since, peer_since}
use Rattle.zq_settings.proofs.ProtectionBroken.{protection_breaks}
use Rattle.zq_settings.proofs.SiteFaults.{address_breaks, fault_breaks, missing_breaks}
use Rattle.zq_settings.proofs.NamedTexts.{local_peer_from, peer_text_from, peer_text_since}
use Rattle.zq_settings.proofs.Spelled.{no_ip}
use Rattle.zq_settings.proofs.Steps.{both_err, some_since, none_since, text_since, array_since, table_since}
use Rattle.std.proofs.Common.{◌+◌, ◌≡◌, ℕ, pos, Bool, true, false, eqb, ltb, List, [], ◌∷◌, ◌++◌, length, Option, Some, None, Result, Ok, Err, refl, sym, ap, ◌∙◌, inl, inr}
use Rattle.std.proofs.lemmas.Bool.{cases_Bool, ltb-true, eqb-true}
use Rattle.std.specs.Option.{is_some, ok_or}
use Rattle.toml.specs.Data.{Data, Items, no_items, item, Members, integer, string, array, as_array, as_str, as_table, table as subtable}
use Rattle.toml.specs.View.{items_of}
use Rattle.zq_settings.specs.Addresses.{ip_of}
use Rattle.zq_settings.specs.Breaks.{HasUnknown, IsNoPeerAddress}
use Rattle.zq_settings.specs.PeerAddresses.{IsLocalPeer, is_local_peer, peer_address_of}
use Rattle.zq_settings.specs.Peers.{sites_of}
use Rattle.zq_settings.specs.Ports.{first_twice}
use Rattle.zq_settings.specs.Protecting.{protection_of}
use Rattle.zq_settings.specs.Settings.{common_of, count_of, each, known_keys, log_level_of, required_of, rule_of, site_of}
use Rattle.zq_settings.specs.DataKeys.{data_keys_of}
use Rattle.zq_settings.specs.Site.{accept_of, address_at, admin_keys_of, alone_of, apart, bind_of, drain_of, link_backlog_of, max_memory_of, peer_address_at, peer_at, peer_of, peers_in, peers_of, secret_of, site_seed_of, unless_far, unless_met, unless_own, unless_short}
use Rattle.zq_settings.specs.SiteBreaks.{EachRefusalOfASiteIsOfABrokenRule, HasPeer, HasTwice, SiteBreaks}
use Rattle.zq_settings.specs.SiteRules.{AreEach, IsPeer}
use Rattle.zq_settings.specs.Tables.{value_at}
use Rattle.zq_settings.specs.declared.form.Form.TheVariants as form
use Rattle.zq_settings.specs.declared.key.Key.TheVariants as key
use Rattle.zq_settings.specs.declared.peer.Peer.{Peer}
use Rattle.zq_settings.specs.declared.peer_address.PeerAddress.{PeerAddress}
use Rattle.zq_settings.specs.declared.why.Why.{Why}
use Rattle.zq_settings.specs.declared.why.Why.TheVariants.{Missing, Count, Kind, Range, PeerTwice, OwnPeer, Exposed}

-- the address of a peer that is not taken
far_since : (secured : Bool) (a : PeerAddress) (why : Why) → unless_far secured a ≡ Err why → (why ≡ Exposed key.PeerAddress) × (secured ≡ false) × (is_local_peer a ≡ false)
far_since true a why h = cc
far_since false a why h =
    elim (cases_Bool (is_local_peer a)) [
      | inl local ↦ let never : Ok a ≡ Err why = rw local at h in cc
      | inr other ↦
          let same : why ≡ Exposed key.PeerAddress = let there : Err (Exposed key.PeerAddress) ≡ Err why = rw other at h in cc in
          (same, refl, other)
    ]

no_peer_address : (text : List ℕ) → peer_address_of text ≡ None → IsNoPeerAddress text
no_peer_address text none a spells = let never : Some a ≡ None = sym (peer_text_from text a spells) ∙ none in cc

peer_address_fault : (secured : Bool) (t : Members) (why : Why) (value : Option Data) → value_at key.PeerAddress t ≡ value → peer_address_at secured value ≡ Err why → AddressFault secured key.PeerAddress t why
peer_address_fault secured t why None seen h = let same : why ≡ Missing key.PeerAddress = cc in inl (inl (same, seen))
peer_address_fault secured t why (Some d) seen last =
    by_steps (ok_or (as_str d) (Kind key.PeerAddress)) _ why (AddressFault secured key.PeerAddress t why) (λ h.
    let (none, same) = none_since (as_str d) (Kind key.PeerAddress) why h in
    inl (inr (inl (same, (d, seen, none))))) (λ text is_text.
    let writes : d ≡ string text = text_since d text (some_since _ _ text is_text) in
    by_steps (ok_or (peer_address_of text) (Range key.PeerAddress)) (unless_far secured) why (AddressFault secured key.PeerAddress t why) (λ h.
    let (none, same) = none_since (peer_address_of text) (Range key.PeerAddress) why h in
    inl (inr (inr (same, (d, seen, (text, writes, no_peer_address text none)))))) (λ a written h.
    let (same, bare, other) = far_since secured a why h in
    let spells = peer_text_since text a (some_since _ _ a written) in
    let far : ¬ IsLocalPeer a = λ local. let never : true ≡ false = sym (local_peer_from a local) ∙ other in cc in
    inr (same, bare, (d, seen, (text, a, writes, spells, far))))) last

-- the address of clients, and the secret
bind_fault : (table : Members) (why : Why) (value : Option Data) → value_at key.Bind table ≡ value → bind_of value ≡ Err why → HasFault key.Bind table why
bind_fault table why None seen h = cc
bind_fault table why (Some d) seen last =
    by_steps (ok_or (as_str d) (Kind key.Bind)) _ why (HasFault key.Bind table why) (λ h.
    let (none, same) = none_since (as_str d) (Kind key.Bind) why h in
    inl (same, (d, seen, none))) (λ text is_text h.
    let (none, same) = none_since (ip_of text) (Range key.Bind) why h in
    inr (same, (d, seen, (text, text_since d text (some_since _ _ text is_text), no_ip text none)))) last

secret_fault : (table : Members) (why : Why) (value : Option Data) → value_at key.Secret table ≡ value → secret_of value ≡ Err why → HasFault key.Secret table why
secret_fault table why None seen h = cc
secret_fault table why (Some d) seen last =
    by_steps (ok_or (as_str d) (Kind key.Secret)) unless_short why (HasFault key.Secret table why) (λ h.
    let (none, same) = none_since (as_str d) (Kind key.Secret) why h in
    inl (same, (d, seen, none))) (λ text is_text h.
    elim (cases_Bool (ltb (length text) 16)) [
      | inl short ↦
          let same : why ≡ Range key.Secret = let there : Err (Range key.Secret) ≡ Err why = rw short at h in cc in
          inr (same, (d, seen, (text, text_since d text (some_since _ _ text is_text), ltb-true (length text) 16 short)))
      | inr enough ↦ let never : Ok (Some text) ≡ Err why = rw enough at h in cc
    ]) last

no_secret : (secret : Option (List ℕ)) (value : Option Data) → secret_of value ≡ Ok secret → is_some secret ≡ false → value ≡ None
no_secret (Some text) value h none = cc
no_secret None value h none = elim (secret_since None value h) [ inl neither ↦ neither.0 | inr some ↦ let never : None ≡ Some some.0 = some.3 in cc ]

-- a peer
own_since : (own number : ℕ) (why : Why) → unless_own own number ≡ Err why → (why ≡ OwnPeer number) × (number ≡ own)
own_since own number why h =
    elim (cases_Bool (eqb number own)) [
      | inl same ↦
          let is : why ≡ OwnPeer number = let there : Err (OwnPeer number) ≡ Err why = rw same at h in cc in
          (is, eqb-true number own same)
      | inr other ↦ let never : Ok number ≡ Err why = rw other at h in cc
    ]

peer_table_breaks : (table t : Members) (lift : (P : Members → Type 0) → P t → HasPeer P table) (own : ℕ) (secured : Bool) → value_at key.Site table ≡ Some (integer (pos own)) → (secured ≡ false → value_at key.Secret table ≡ None)
    → (why : Why) → peer_at own secured t ≡ Err why → SiteBreaks table why
peer_table_breaks table t lift own secured site bare why =
    let P : Type 0 = SiteBreaks table why in
    by_steps (known_keys form.Peer t) _ why P (λ h. let (name, same, has) = unknown_fault form.Peer t why h in rw same (lift (HasUnknown form.Peer name) has)) (λ known _.
    by_steps (site_of key.PeerSite (value_at key.PeerSite t)) _ why P (λ h. missing_breaks table t key.PeerSite lift why (required_fault t key.PeerSite 0 63 (λ d none. none) (λ d out. out) why _ refl h)) (λ number number_read.
    by_steps (unless_own own number) _ why P (λ h.
    let (same, is_own) = own_since own number why h in
    let says = (required_since key.PeerSite 0 63 number _ number_read).0 in
    rw same (site ∙ ap (λ n. Some (integer (pos n))) (sym is_own), lift (λ peer. value_at key.PeerSite peer ≡ Some (integer (pos number))) says)) (λ other _.
    by_steps (peer_address_at secured (value_at key.PeerAddress t)) _ why P (λ h. address_breaks table t key.PeerAddress lift secured (λ none has. (bare none, has)) why (peer_address_fault secured t why _ refl h)) (λ address _ wrong. cc))))

peer_breaks : (table : Members) (before : List Data) (entry : Data) (others : List Data) (own : ℕ) (secured : Bool) → value_at key.Peers table ≡ Some (array (items_of (before ++ entry ∷ others)))
    → value_at key.Site table ≡ Some (integer (pos own)) → (secured ≡ false → value_at key.Secret table ≡ None) → (why : Why) → peer_of own secured entry ≡ Err why → SiteBreaks table why
peer_breaks table before entry others own secured seen site bare why h =
    elim (both_err (ok_or (as_table entry) (Kind key.Peers)) (peer_at own secured) why h) [
      | inl other ↦
          let (none, same) = none_since (as_table entry) (Kind key.Peers) why other in
          rw same (array (items_of (before ++ entry ∷ others)), seen, inr (before, entry, others, refl, none))
      | inr a_table ↦
          let (t, is, wrong) = a_table in
          let same : entry ≡ subtable t = table_since entry t (some_since _ _ t is) in
          let there : value_at key.Peers table ≡ Some (array (items_of (before ++ subtable t ∷ others))) = seen ∙ ap (λ e. Some (array (items_of (before ++ e ∷ others)))) same in
          peer_table_breaks table t (λ P has. (before, t, others, there, has)) own secured site bare why wrong
    ]

-- the first entry that cannot be read
each_fault : {A : Type 0} (read : Data → Result A Why) (entries : Items) (why : Why) → each read entries ≡ Err why → (before : List Data) × (entry : Data) × (others : List Data) × (entries ≡ items_of (before ++ entry ∷ others)) × (read entry ≡ Err why)
each_fault read no_items why h = cc
each_fault read (item entry entries) why h =
    elim (both_err (read entry) _ why h) [
      | inl here ↦ let (list, same) = listed entries in ([], entry, list, ap (item entry) same, here)
      | inr there ↦
          let (first, first_read, rest) = there in
          elim (both_err (each read entries) _ why rest) [
            | inl later ↦
                let (before, bad, others, same, wrong) = each_fault read entries why later in
                (entry ∷ before, bad, others, ap (item entry) same, wrong)
            | inr none ↦ let (all, all_read, wrong) = none in let never : Ok (first ∷ all) ≡ Err why = wrong in cc
          ]
    ]

-- the entry of a peer with this number
record HasSplit (R : Data → Peer → Type 0) (list : List Data) (site : ℕ) (others : List ℕ) : Type 0 where
  front : List Data
  entry : Data
  back : List Data
  peer : Peer
  rest : List Peer
  split : list ≡ front ++ entry ∷ back
  says : R entry peer
  same : peer.site ≡ site
  are : AreEach R back rest
  left : sites_of rest ≡ others

one_further : (R : Data → Peer → Type 0) (entry : Data) (list : List Data) (site : ℕ) (others : List ℕ) → HasSplit R list site others → HasSplit R (entry ∷ list) site others
one_further R entry list site others found =
    record { front = entry ∷ found.front; entry = found.entry; back = found.back; peer = found.peer; rest = found.rest; split = ap (λ l. entry ∷ l) found.split; says = found.says; same = found.same; are = found.are; left = found.left }

split_at : (R : Data → Peer → Type 0) (list : List Data) (peers : List Peer) (before : List ℕ) (site : ℕ) (others : List ℕ) → AreEach R list peers → sites_of peers ≡ before ++ site ∷ others → HasSplit R list site others
split_at R [] [] [] site others are h = cc
split_at R [] [] (b ∷ before) site others are h = cc
split_at R [] (peer ∷ peers) before site others are h = absurd are
split_at R (entry ∷ list) [] before site others are h = absurd are
split_at R (entry ∷ list) (peer ∷ peers) [] site others are h =
    record { front = []; entry = entry; back = list; peer = peer; rest = peers; split = refl; says = are.0; same = cc; are = are.1; left = cc }
split_at R (entry ∷ list) (peer ∷ peers) (b ∷ before) site others are h =
    let tail : sites_of peers ≡ before ++ site ∷ others = cc in
    one_further R entry list site others (split_at R list peers before site others are.1 tail)

twice_breaks : (own : ℕ) (secret : Option (List ℕ)) (table : Members) (list : List Data) (peers : List Peer) (site : ℕ) → value_at key.Peers table ≡ Some (array (items_of list)) → AreEach (IsPeer own secret) list peers
    → first_twice (sites_of peers) ≡ Some site → HasTwice site table
twice_breaks own secret table list peers site seen are twice =
    let (before, between, others, met) = repeated (sites_of peers) site twice in
    let one = split_at (IsPeer own secret) list peers before site (between ++ site ∷ others) are met in
    let two = split_at (IsPeer own secret) one.back one.rest between site others one.are one.left in
    let (first, first_is, first_says) = one.says in
    let (second, second_is, second_says) = two.says in
    let back : one.back ≡ two.front ++ subtable second ∷ two.back = two.split ∙ ap (λ e. two.front ++ e ∷ two.back) second_is in
    let whole : list ≡ one.front ++ subtable first ∷ (two.front ++ subtable second ∷ two.back) = one.split ∙ ap (λ e. one.front ++ e ∷ one.back) first_is ∙ ap (λ b. one.front ++ subtable first ∷ b) back in
    let number : ℕ → Option Data = λ n. Some (integer (pos n)) in
    (one.front, first, two.front, second, two.back, seen ∙ ap (λ l. Some (array (items_of l))) whole, first_says.site.0 ∙ ap number one.same, second_says.site.0 ∙ ap number two.same)

met_of : (twice : Option ℕ) (peers : List Peer) (why : Why) → unless_met twice peers ≡ Err why → (site : ℕ) × (twice ≡ Some site) × (why ≡ PeerTwice site)
met_of None peers why h = cc
met_of (Some site) peers why h = let same : why ≡ PeerTwice site = cc in (site, refl, same)

-- the peers
entries_break : (own : ℕ) (secret : Option (List ℕ)) (table : Members) (entries : Items) → value_at key.Peers table ≡ Some (array entries) → value_at key.Site table ≡ Some (integer (pos own))
    → (is_some secret ≡ false → value_at key.Secret table ≡ None) → (why : Why) → peers_in own (is_some secret) entries ≡ Err why → SiteBreaks table why
entries_break own secret table entries seen site bare why h =
    elim (cases_Bool (ltb 63 (count_of entries))) [
      | inl many ↦
          let same : why ≡ Count key.Peers (count_of entries) = let there : Err (Count key.Peers (count_of entries)) ≡ Err why = rw many at h in cc in
          let (list, as_list) = listed entries in
          let counted : length list ≡ count_of entries = sym (ap count_of as_list ∙ count_listed list) in
          rw same (list, seen ∙ ap (λ es. Some (array es)) as_list, counted, ltb-true 63 (count_of entries) many)
      | inr few ↦
          elim (both_err (each (peer_of own (is_some secret)) entries) apart why (rw few at h)) [
            | inl bad ↦
                let (before, entry, others, split, wrong) = each_fault (peer_of own (is_some secret)) entries why bad in
                peer_breaks table before entry others own (is_some secret) (seen ∙ ap (λ es. Some (array es)) split) site bare why wrong
            | inr read ↦
                let (peers, peers_read, again) = read in
                let (number, twice, same) = met_of (first_twice (sites_of peers)) peers why again in
                let (list, as_list, are) = each_since (peer_of own (is_some secret)) (IsPeer own secret) (peer_since own secret) entries peers peers_read in
                rw same (twice_breaks own secret table list peers number (seen ∙ ap (λ es. Some (array es)) as_list) are twice)
          ]
    ]

peers_break : (own : ℕ) (secret : Option (List ℕ)) (table : Members) → value_at key.Site table ≡ Some (integer (pos own)) → (is_some secret ≡ false → value_at key.Secret table ≡ None)
    → (why : Why) (value : Option Data) → value_at key.Peers table ≡ value → peers_of own (is_some secret) value ≡ Err why → SiteBreaks table why
peers_break own secret table site bare why None seen h = cc
peers_break own secret table site bare why (Some d) seen h =
    elim (both_err (ok_or (as_array d) (Kind key.Peers)) (peers_in own (is_some secret)) why h) [
      | inl other ↦
          let (none, same) = none_since (as_array d) (Kind key.Peers) why other in
          rw same (d, seen, inl none)
      | inr an_array ↦
          let (entries, is, bad) = an_array in
          entries_break own secret table entries (seen ∙ ap Some (array_since d entries (some_since _ _ entries is))) site bare why bad
    ]

-- the settings
pub each_refusal_of_a_site_is_of_a_broken_rule : EachRefusalOfASiteIsOfABrokenRule
each_refusal_of_a_site_is_of_a_broken_rule table why =
    let P : Type 0 = SiteBreaks table why in
    by_steps (known_keys form.Site table) _ why P (λ h. let (name, same, has) = unknown_fault form.Site table why h in rw same has) (λ known _.
    by_steps (site_of key.Site (value_at key.Site table)) _ why P (λ h. missing_breaks table table key.Site (λ Q q. q) why (required_fault table key.Site 0 63 (λ d none. none) (λ d out. out) why _ refl h)) (λ site site_read.
    by_steps (required_of key.Port 1 65535 (value_at key.Port table)) _ why P (λ h. missing_breaks table table key.Port (λ Q q. q) why (required_fault table key.Port 1 65535 (λ d none. none) (λ d out. out) why _ refl h)) (λ port _.
    by_steps (bind_of (value_at key.Bind table)) _ why P (λ h. fault_breaks table table key.Bind (λ Q q. q) why (bind_fault table why _ refl h)) (λ bind bind_read.
    by_steps (secret_of (value_at key.Secret table)) _ why P (λ h. fault_breaks table table key.Secret (λ Q q. q) why (secret_fault table why _ refl h)) (λ secret secret_read.
    by_steps (address_at (is_some secret) key.Listen (value_at key.Listen table)) _ why P
    (λ h. address_breaks table table key.Listen (λ Q q. q) (is_some secret) (λ none has. (no_secret secret _ secret_read none, has)) why
    (address_fault (is_some secret) key.Listen table (λ d none. none) (λ d out. out) (λ d far. far) why _ refl h)) (λ listen _.
    by_steps (peers_of site (is_some secret) (value_at key.Peers table)) _ why P (peers_break site secret table (required_since key.Site 0 63 site _ site_read).0 (no_secret secret _ secret_read) why _ refl) (λ peers _.
    by_steps (common_of table) _ why P
    (common_fault table why P (fault_breaks table table key.Heaps (λ Q q. q) why) (fault_breaks table table key.Workers (λ Q q. q) why) (fault_breaks table table key.Connections (λ Q q. q) why)
    (fault_breaks table table key.Clients (λ Q q. q) why) (fault_breaks table table key.Timeout (λ Q q. q) why) (fault_breaks table table key.WriteTimeout (λ Q q. q) why)
    (fault_breaks table table key.Output (λ Q q. q) why)) (λ common _.
    by_steps (link_backlog_of (value_at key.LinkBacklog table)) _ why P
    (λ h. fault_breaks table table key.LinkBacklog (λ Q q. q) why (number_fault table key.LinkBacklog 1048576 1099511627776 67108864 (λ d none. none) (λ d out. out) why _ refl h)) (λ link_backlog _.
    by_steps (alone_of (value_at key.Alone table)) _ why P
    (λ h. fault_breaks table table key.Alone (λ Q q. q) why (number_fault table key.Alone 0 1000000 10 (λ d none. none) (λ d out. out) why _ refl h)) (λ alone _.
    by_steps (accept_of (value_at key.Accept table)) _ why P (λ h. fault_breaks table table key.Accept (λ Q q. q) why (accept_fault table why _ refl h)) (λ accept _.
    by_steps (admin_keys_of table) _ why P (admin_keys_break table why) (λ admin _.
    by_steps (protection_of bind table) _ why P (protection_breaks table bind (bind_since bind _ bind_read) why) (λ protection _.
    by_steps (drain_of (value_at key.Drain table)) _ why P
    (λ h. fault_breaks table table key.Drain (λ Q q. q) why (number_fault table key.Drain 0 1000000 10 (λ d none. none) (λ d out. out) why _ refl h)) (λ drain _.
    by_steps (data_keys_of table) _ why P (data_keys_break table why) (λ disk _.
    by_steps (log_level_of (value_at key.LogLevel table)) _ why P (λ h. fault_breaks table table key.LogLevel (λ Q q. q) why (log_level_fault table why _ refl h)) (λ log_level _.
    by_steps (max_memory_of (value_at key.MaxMemory table)) _ why P
    (λ h. fault_breaks table table key.MaxMemory (λ Q q. q) why (number_fault table key.MaxMemory 0 1099511627776 0 (λ d none. none) (λ d out. out) why _ refl h)) (λ max_memory _.
    by_steps (site_seed_of site (value_at key.Seed table)) _ why P
    (λ h. fault_breaks table table key.Seed (λ Q q. q) why (number_fault table key.Seed 0 9223372036854775807 (site + 1) (λ d none. none) (λ d out. out) why _ refl h)) (λ seed _.
    by_steps (rule_of (value_at key.Rule table)) _ why P (λ h. fault_breaks table table key.Rule (λ Q q. q) why (rule_fault table why _ refl h)) (λ rule _ wrong. cc)))))))))))))))))))
