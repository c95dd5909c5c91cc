-- What the values of a table and of an array are in the model.
use Rattle.std.proofs.Common.{◌≡◌, ◌+◌, ◌<◌, ℕ, suc, not, List, [], ◌∷◌, ◌++◌, length, get_or, drop, option_map, string_bytes, Result, Ok, Err, refl, ap, append_assoc, sym, inl, inr, arith}
use Rattle.std.proofs.lemmas.Bool.{cases_Bool}
use Rattle.std.proofs.lemmas.List.{drop_more}
use Rattle.std.specs.List.{find, IsDistinct}
use Rattle.std.specs.Map.{keys_of}
use Rattle.toml.proofs.Views.{Entry, items_view-drop}
use Rattle.toml.specs.Data.{Data}
use Rattle.toml.specs.View.{view, items_view, members_view}
use Rattle.toml.specs.declared.value.Value.{Value}
use Rattle.zq_settings.specs.Keys.{is_known}
use Rattle.zq_settings.specs.Peers.{ArePeers, sites_of}
use Rattle.zq_settings.specs.Settings.{◌>>=◌, count_of, each}
use Rattle.zq_settings.specs.Tables.{first_unknown}
use Rattle.zq_settings.specs.declared.form.Form.{Form}
use Rattle.zq_settings.specs.declared.peer.Peer.{Peer}
use Rattle.zq_settings.specs.declared.why.Why.{Why}

pub unknown_seen : (form : Form) (entries : List Entry) → first_unknown form (members_view entries) ≡ option_map string_bytes (find (λ name. not (is_known form (string_bytes name))) (keys_of entries))
unknown_seen form [] = refl
unknown_seen form (entry ∷ entries) =
    elim (cases_Bool (is_known form (string_bytes entry.0))) [
      | inl known ↦ rw known (unknown_seen form entries)
      | inr unknown ↦ rw unknown
    ]

pub count_seen : (entries : List Value) → count_of (items_view entries) ≡ length entries
count_seen [] = refl
count_seen (entry ∷ entries) = ap suc (count_seen entries)

-- these, and then those that were read
abbrev pub after : {A : Type 0} → List A → Result (List A) Why → Result (List A) Why
after done (Ok others) = Ok (done ++ others)
after done (Err why) = Err why

one_more : {A : Type 0} (done : List A) (first : A) (others : Result (List A) Why) → after done (others >>= (λ more. Ok (first ∷ more))) ≡ after (done ++ first ∷ []) others
one_more done first (Ok more) = ap Ok (sym (append_assoc done (first ∷ []) more))
one_more done first (Err why) = refl

-- an entry that can be read, and one that cannot
pub entry_read : {A : Type 0} (read : Data → Result A Why) (done : List A) (entries : List Value) (i : ℕ) (d : Value) (first : A) → i < length entries → read (view (get_or entries i d)) ≡ Ok first
    → after done (each read (items_view (drop i entries))) ≡ after (done ++ first ∷ []) (each read (items_view (drop (i + 1) entries)))
entry_read read done entries i d first within is = rw (items_view-drop entries i d within, is) (one_more done first _)

pub none_read : {A : Type 0} (read : Data → Result A Why) (done : List A) (entries : List Value) (i : ℕ) (d : Value) (why : Why) → i < length entries → read (view (get_or entries i d)) ≡ Err why
    → after done (each read (items_view (drop i entries))) ≡ Err why
none_read read done entries i d why within is = rw (items_view-drop entries i d within, is)

-- the numbers of the peers from a place on
pub sites_drop : (peers : List Peer) (i : ℕ) (d : Peer) → i < length peers → sites_of (drop i peers) ≡ (get_or peers i d).site ∷ sites_of (drop (i + 1) peers)
sites_drop peers i d within = rw (drop_more peers i d within)

pub no_peers : (peers : List Peer) → peers ≡ [] → ArePeers peers
unfolding IsDistinct
no_peers peers none = rw none (omega arith, tt)
