-- What each part of a peer's words is read from, and that it is read from that.

use Rattle.std.proofs.Common.{ap, append_assoc, arith, Bool, Err, false, length, List, None, Ok, Option, Result, Some, take, drop, true, refl, subst, sym, inl, inr, suc, ℕ, [], ◌∷◌, ◌++◌, ◌*◌, ◌<◌, ◌≤◌, ◌≡◌, ◌≢◌, ◌∙◌, cond, eqb, get_or}
use Rattle.std.proofs.lemmas.Bool.{and_from, and_parts, cases_Bool, eqb-false, eq-eqb, eqb-true, le-leb, leb-true, lt-ltb, ltb-true, ne_eqb}
use Rattle.std.proofs.lemmas.Bool.Decides.{nat_tests}
use Rattle.std.proofs.lemmas.List.{length-take-le, take-append-drop}
use Rattle.std.proofs.lemmas.Slice.Eq.{bytes_eq-Decides}
use Rattle.std.specs.List.{Contains, find}
use Rattle.std.specs.Option.{ok_or}
use Rattle.std.specs.Prelude.{nat_le, nat_lt, zero, ◌&&◌}
use Rattle.std.specs.Str.{bytes_eq}
use Rattle.zq_dots.specs.Rule.{rule_of}
use Rattle.zq_dots.specs.declared.rule.Rule.{Rule}
use Rattle.zq_fields.proofs.Again.{bytes_read}
use Rattle.zq_fields.specs.Spelling.{rule_byte}
use Rattle.zq_wire.proofs.Long.{hmac_long}
use Rattle.zq_wire.specs.GreetingLaws.{Agrees, IsExpected}
use Rattle.zq_wire.specs.Ranges.{IsGreatestCommon, Speaks, agreed_at, agreed_or, least_highest, new_at, old_at, only, same_form, version_at}
use Rattle.zq_wire.specs.Reading.{answer_at, expected, heaps_at, magic_at, nonce_at, open_at, peer_at, rule_at, site_at}
use Rattle.zq_wire.specs.Said.{Claimant, answer, claim, front, magic, run_bytes, version_bytes}
use Rattle.zq_wire.specs.Steps.{byte_at, bytes_at, ◌>>=◌}
use Rattle.zq_wire.specs.Told.{IsToldIfNew, Told, form_of, run_at, run_of, run_told, versions_of}
use Rattle.zq_wire.specs.declared.form.Form.{Form}
use Rattle.zq_wire.specs.declared.form.Form.TheVariants.{New, Old}
use Rattle.zq_wire.specs.declared.met.Met.{Met}
use Rattle.zq_wire.specs.declared.refusal.Refusal.{Refusal}
use Rattle.zq_wire.specs.declared.refusal.Refusal.TheVariants as refusal
use Rattle.zq_wire.specs.declared.run.Run.{Run}
use Rattle.zq_wire.specs.declared.side.Side.{Side}
use Rattle.zq_wire.specs.declared.stop.Stop.{Stop}
use Rattle.zq_wire.specs.declared.stop.Stop.TheVariants.{Refused, Short}
use Rattle.zq_wire.specs.declared.versions.Versions.{Versions}

-- two steps that gave a value each gave one, and the other way round
pub both_ok : {X Y : Type 0} (r : Result X Stop) (next : X → Result Y Stop) (y : Y) → (r >>= next) ≡ Ok y → (x : X) × (r ≡ Ok x) × (next x ≡ Ok y)
both_ok (Ok x) next y h = (x, refl, h)
both_ok (Err stop) next y h = cc

pub step : {X Y : Type 0} (r : Result X Stop) (next : X → Result Y Stop) (x : X) (y : Y) → r ≡ Ok x → next x ≡ Ok y → (r >>= next) ≡ Ok y
step r next x y h then = rw h then

not_refused : {X : Type 0} (why : Refusal) (x : X) → Err (Refused why) ≡ Ok x → ⊥
not_refused why x h = cc

-- a test that let the rest pass
passed : (b : Bool) (rest read : List ℕ) (why : Refusal) → cond b (Ok rest) (Err (Refused why)) ≡ Ok read → (b ≡ true) × (rest ≡ read)
passed true rest read why h = (refl, cc)
passed false rest read why h = cc

-- one reading gives one value
pub same_read : {X : Type 0} (p q : X) (r : Result X Stop) → r ≡ Ok p → r ≡ Ok q → p ≡ q
same_read p q r is_p is_q = cc

-- ---- fields

pub byte_since : (bytes : List ℕ) (b : ℕ) (rest : List ℕ) → byte_at bytes ≡ Ok (b, rest) → bytes ≡ b ∷ rest
byte_since [] b rest h = cc
byte_since (first ∷ others) b rest h =
    let pair = same_read {X = ℕ × List ℕ} (first, others) (b, rest) (byte_at (first ∷ others)) refl h in
    λ i. (pair i).0 ∷ (pair i).1

value_since : {X : Type 0} (o : Option X) (stop : Stop) (x : X) → ok_or o stop ≡ Ok x → o ≡ Some x
value_since (Some y) stop x h = cc
value_since None stop x h = cc

pub bytes_since : (n : ℕ) (bytes x rest : List ℕ) → bytes_at n bytes ≡ Ok (x, rest) → (length x ≡ n) × (bytes ≡ x ++ rest)
bytes_since n bytes x rest h =
    elim (cases_Bool (nat_lt (length bytes) n)) [
      | inl short ↦ let never : Err Short ≡ Ok (x, rest) = rw short at h in cc
      | inr long ↦
          let enough : n ≤ length bytes = grind (arith, nat_tests) in
          let read : bytes_at n bytes ≡ Ok (take n bytes, drop n bytes) = rw long refl in
          let pair = same_read {X = List ℕ × List ℕ} (take n bytes, drop n bytes) (x, rest) (bytes_at n bytes) read h in
          let front : take n bytes ≡ x = λ i. (pair i).0 in
          let back : drop n bytes ≡ rest = λ i. (pair i).1 in
          (ap length (sym front) ∙ length-take-le n bytes enough, sym (take-append-drop n bytes) ∙ (λ i. front i ++ back i))
    ]

pub bytes_from : (n : ℕ) (x rest : List ℕ) → length x ≡ n → bytes_at n (x ++ rest) ≡ Ok (x, rest)
bytes_from n x rest size = ap (λ o. ok_or o Short) (bytes_read n x rest size)

-- ---- the parts before the secret

pub magic_since : (bytes rest : List ℕ) → magic_at bytes ≡ Ok rest → bytes ≡ magic ++ rest
unfolding magic_at
magic_since bytes rest h =
    let (word, read, test) = both_ok (bytes_at 8 bytes) _ rest h in
    let (same, is_rest) = passed (bytes_eq word.0 magic) word.1 rest refusal.Magic test in
    let split = (bytes_since 8 bytes word.0 word.1 read).1 in
    split ∙ (λ i. (bytes_eq-Decides word.0 magic).0 same i ++ is_rest i)

pub magic_from : (rest : List ℕ) → magic_at (magic ++ rest) ≡ Ok rest
unfolding magic_at
magic_from rest = step (bytes_at 8 (magic ++ rest)) _ (magic, rest) rest (bytes_from 8 magic rest refl) refl

pub heaps_since : (heaps : ℕ) (bytes rest : List ℕ) → heaps_at heaps bytes ≡ Ok rest → bytes ≡ heaps ∷ rest
unfolding heaps_at
heaps_since heaps bytes rest h =
    let (byte, read, test) = both_ok (byte_at bytes) _ rest h in
    let (same, is_rest) = passed (eqb byte.0 heaps) byte.1 rest (refusal.Heaps byte.0) test in
    byte_since bytes byte.0 byte.1 read ∙ (λ i. eqb-true byte.0 heaps same i ∷ is_rest i)

pub heaps_from : (heaps : ℕ) (rest : List ℕ) → heaps_at heaps (heaps ∷ rest) ≡ Ok rest
unfolding heaps_at
heaps_from heaps rest = rw (eq-eqb heaps heaps refl) refl

pub rule_since : (rule : Rule) (bytes rest : List ℕ) → rule_at rule bytes ≡ Ok rest → bytes ≡ rule_byte (rule_of rule) ∷ rest
unfolding rule_at
rule_since rule bytes rest h =
    let (byte, read, test) = both_ok (byte_at bytes) _ rest h in
    let (same, is_rest) = passed (eqb byte.0 (rule_byte (rule_of rule))) byte.1 rest refusal.Rule test in
    byte_since bytes byte.0 byte.1 read ∙ (λ i. eqb-true byte.0 (rule_byte (rule_of rule)) same i ∷ is_rest i)

pub rule_from : (rule : Rule) (rest : List ℕ) → rule_at rule (rule_byte (rule_of rule) ∷ rest) ≡ Ok rest
unfolding rule_at
rule_from rule rest = rw (eq-eqb (rule_byte (rule_of rule)) (rule_byte (rule_of rule)) refl) refl

-- ---- the site

found_since : (number : ℕ) (peers : List ℕ) (peer : ℕ) → find (λ p. eqb p number) peers ≡ Some peer → (peer ≡ number) × Contains peers peer
found_since number [] peer h = cc
found_since number (first ∷ others) peer h =
    elim (cases_Bool (eqb first number)) [
      | inl same ↦
          let here : Some first ≡ Some peer = rw same at h in
          let is : first ≡ peer = cc in
          (sym is ∙ eqb-true first number same, (0, omega arith, is))
      | inr other ↦
          let (is, (k, below, there)) = found_since number others peer (rw other at h) in
          (is, (suc k, omega arith, there))
    ]

found_from : (number : ℕ) (peers : List ℕ) (k : ℕ) → k < length peers → get_or peers k number ≡ number → find (λ p. eqb p number) peers ≡ Some number
found_from number [] k below is = absurd (omega arith)
found_from number (first ∷ others) zero below is = rw (eq-eqb first number is) (ap Some is)
found_from number (first ∷ others) (suc k) below is =
    elim (cases_Bool (eqb first number)) [
      | inl same ↦ rw same (ap Some (eqb-true first number same))
      | inr other ↦ rw other (found_from number others k (omega arith) is)
    ]

chosen : (own number : ℕ) (peers : List ℕ) (found : ℕ) → cond (eqb number own) (Err (Refused refusal.SameSite)) (expected number peers) ≡ Ok found
    → (number ≢ own) × (found ≡ number) × Contains peers found
chosen own number peers found h =
    elim (cases_Bool (eqb number own)) [
      | inl same ↦ let never : Err (Refused refusal.SameSite) ≡ Ok found = rw same at h in cc
      | inr other ↦
          let there = value_since (find (λ p. eqb p number) peers) (Refused (refusal.Unexpected number)) found (rw other at h) in
          let (is, among) = found_since number peers found there in
          (eqb-false number own other, is, among)
    ]

pub site_since : (own : ℕ) (peers bytes : List ℕ) (peer : ℕ) (rest : List ℕ) → site_at own peers bytes ≡ Ok (peer, rest) → (bytes ≡ peer ∷ rest) × (peer ≢ own) × Contains peers peer
unfolding site_at
site_since own peers bytes peer rest h =
    let (byte, read, after) = both_ok (byte_at bytes) _ (peer, rest) h in
    let (found, choice, given) = both_ok (cond (eqb byte.0 own) (Err (Refused refusal.SameSite)) (expected byte.0 peers)) _ (peer, rest) after in
    let pair = same_read {X = ℕ × List ℕ} (found, byte.1) (peer, rest) _ refl given in
    let found_is : found ≡ peer = λ i. (pair i).0 in
    let rest_is : byte.1 ≡ rest = λ i. (pair i).1 in
    let (other, is, among) = chosen own byte.0 peers found choice in
    let number : byte.0 ≡ peer = sym is ∙ found_is in
    let P : ℕ → Type 0 = λ q. Contains peers q in
    (byte_since bytes byte.0 byte.1 read ∙ (λ i. number i ∷ rest_is i), λ same. other (number ∙ same), subst P found_is among)

pub site_from : (own : ℕ) (peers : List ℕ) (peer : ℕ) (rest : List ℕ) → peer ≢ own → Contains peers peer → site_at own peers (peer ∷ rest) ≡ Ok (peer, rest)
unfolding site_at
site_from own peers peer rest other (k, below, is) = rw (ne_eqb peer own other, found_from peer peers k below is) refl

-- ---- the versions

-- a range in common, and what the tests of it say
some_since : (b : Bool) (n version : ℕ) (own heard : Versions) → agreed_or own heard (cond b (Some n) None) ≡ Ok version → (b ≡ true) × (n ≡ version)
some_since true n version own heard h = (refl, cc)
some_since false n version own heard h = cc

greatest_since : (own heard : Versions) (version : ℕ) → least_highest own heard ≡ version → heard.lowest ≤ least_highest own heard → own.lowest ≤ least_highest own heard → IsGreatestCommon own heard version
greatest_since own heard version is heard_low own_low =
    record {
      own_speaks = record { from_lowest = omega (arith, is, own_low); to_highest = omega (arith, is) };
      other_speaks = record { from_lowest = omega (arith, is, heard_low); to_highest = omega (arith, is) };
      greatest = λ v own_v other_v. let a = own_v.to_highest in let b = other_v.to_highest in omega (arith, is, a, b);
    }

pub agreed_since : (own heard : Versions) (version : ℕ) → agreed_at own heard ≡ Ok version → (1 ≤ heard.lowest) × IsGreatestCommon own heard version
agreed_since own heard version h =
    let (tests, is) = some_since (nat_lt 0 heard.lowest && nat_le heard.lowest (least_highest own heard) && nat_le own.lowest (least_highest own heard)) (least_highest own heard) version own heard h in
    let (two, third) = and_parts (nat_lt 0 heard.lowest && nat_le heard.lowest (least_highest own heard)) (nat_le own.lowest (least_highest own heard)) tests in
    let (first, second) = and_parts (nat_lt 0 heard.lowest) (nat_le heard.lowest (least_highest own heard)) two in
    let above = ltb-true 0 heard.lowest first in
    (omega (arith, above), greatest_since own heard version is (leb-true heard.lowest (least_highest own heard) second) (leb-true own.lowest (least_highest own heard) third))

pub agreed_from : (own heard : Versions) (version : ℕ) → 1 ≤ heard.lowest → IsGreatestCommon own heard version → agreed_at own heard ≡ Ok version
agreed_from own heard version some common =
    let m = least_highest own heard in
    let a = common.own_speaks.to_highest in
    let b = common.other_speaks.to_highest in
    let c = common.own_speaks.from_lowest in
    let d = common.other_speaks.from_lowest in
    let below : version ≤ least_highest own heard = omega (arith, a, b) in
    let own_m : Speaks own (least_highest own heard) = record { from_lowest = omega (arith, below, c); to_highest = omega arith } in
    let heard_m : Speaks heard (least_highest own heard) = record { from_lowest = omega (arith, below, d); to_highest = omega arith } in
    let above : least_highest own heard ≤ version = common.greatest (least_highest own heard) own_m heard_m in
    let is : least_highest own heard ≡ version = omega (arith, below, above) in
    let first : nat_lt 0 heard.lowest ≡ true = lt-ltb 0 heard.lowest (omega (arith, some)) in
    let second : nat_le heard.lowest (least_highest own heard) ≡ true = le-leb heard.lowest (least_highest own heard) heard_m.from_lowest in
    let third : nat_le own.lowest (least_highest own heard) ≡ true = le-leb own.lowest (least_highest own heard) own_m.from_lowest in
    let tests = and_from (nat_lt 0 heard.lowest && nat_le heard.lowest (least_highest own heard)) (nat_le own.lowest (least_highest own heard)) (and_from (nat_lt 0 heard.lowest) (nat_le heard.lowest (least_highest own heard)) first second) third in
    ap (λ b. agreed_or own heard (cond b (Some (least_highest own heard)) None)) tests ∙ ap (λ n. Ok n) is

same_since : (form heard : Form) (u : Unit {0}) → same_form form heard ≡ Ok u → heard ≡ form
same_since Old Old u h = refl
same_since New New u h = refl
same_since Old New u h = cc
same_since New Old u h = cc

-- a range that was read in the new form
pub new_since : (own : Versions) (form : Form) (bytes : List ℕ) (version : ℕ) (rest : List ℕ) → new_at own form bytes ≡ Ok (version, rest)
    → (range : Versions) × (New ≡ form) × (bytes ≡ range.lowest ∷ range.highest ∷ rest) × (1 ≤ range.lowest) × IsGreatestCommon own range version
unfolding new_at
new_since own form bytes version rest h =
    let (low, at_low, to_low) = both_ok (byte_at bytes) _ (version, rest) h in
    let (high, at_high, to_high) = both_ok (byte_at low.1) _ (version, rest) to_low in
    let (v, at_v, to_v) = both_ok (agreed_at own (record { lowest = low.0; highest = high.0 })) _ (version, rest) to_high in
    let (u, at_u, to_u) = both_ok (same_form form New) _ (version, rest) to_v in
    let pair = same_read {X = ℕ × List ℕ} (v, high.1) (version, rest) _ refl to_u in
    let v_is : v ≡ version = λ i. (pair i).0 in
    let rest_is : high.1 ≡ rest = λ i. (pair i).1 in
    let (some, common) = agreed_since own (record { lowest = low.0; highest = high.0 }) v at_v in (
      record { lowest = low.0; highest = high.0 },
      same_since form New u at_u,
      byte_since bytes low.0 low.1 at_low ∙ (ap (λ l. low.0 ∷ l) (byte_since low.1 high.0 high.1 at_high) ∙ ap (λ l. low.0 ∷ high.0 ∷ l) rest_is),
      some,
      subst (λ n. IsGreatestCommon own (record { lowest = low.0; highest = high.0 }) n) v_is common,
    )

-- the version of the old form
pub old_since : (own : Versions) (form : Form) (version : ℕ) → old_at own form ≡ Ok version → (Old ≡ form) × IsGreatestCommon own (only 1) version
old_since own form version h =
    let (v, at_v, to_v) = both_ok (agreed_at own (only 1)) _ version h in
    let (u, at_u, to_u) = both_ok (same_form form Old) _ version to_v in
    let v_is : v ≡ version = same_read {X = ℕ} v version _ refl to_u in
    let (some, common) = agreed_since own (only 1) v at_v in
    (same_since form Old u at_u, subst (λ n. IsGreatestCommon own (only 1) n) v_is common)

-- what is read of versions: the bytes of a greeting in the old form, or in the new one
pub data Marked (own : Versions) (form : Form) (bytes : List ℕ) (version : ℕ) (rest : List ℕ) : Type 0 where
  InOld : Old ≡ form → bytes ≡ 1 ∷ rest → IsGreatestCommon own (only 1) version → Marked own form bytes version rest
  InNew : (range : Versions) → New ≡ form → bytes ≡ 0 ∷ range.lowest ∷ range.highest ∷ rest → 1 ≤ range.lowest → IsGreatestCommon own range version → Marked own form bytes version rest

pub version_since : (own : Versions) (form : Form) (bytes : List ℕ) (version : ℕ) (rest : List ℕ) → version_at own form bytes ≡ Ok (version, rest) → Marked own form bytes version rest
unfolding version_at
version_since own form bytes version rest h =
    let (mark, at_mark, to_mark) = both_ok (byte_at bytes) _ (version, rest) h in
    let split = byte_since bytes mark.0 mark.1 at_mark in
    elim (cases_Bool (eqb mark.0 0)) [
      | inl zeroth ↦
          let (range, in_form, said, some, common) = new_since own form mark.1 version rest (rw zeroth at to_mark) in
          InNew range in_form (split ∙ (λ i. eqb-true mark.0 0 zeroth i ∷ said i)) some common
      | inr other ↦
          elim (cases_Bool (eqb mark.0 1)) [
            | inl one ↦
                let (v, at_v, to_v) = both_ok (old_at own form) _ (version, rest) (rw (other, one) at to_mark) in
                let pair = same_read {X = ℕ × List ℕ} (v, mark.1) (version, rest) _ refl to_v in
                let v_is : v ≡ version = λ i. (pair i).0 in
                let rest_is : mark.1 ≡ rest = λ i. (pair i).1 in
                let (in_form, common) = old_since own form v at_v in
                InOld in_form (split ∙ (λ i. eqb-true mark.0 1 one i ∷ rest_is i)) (subst (λ n. IsGreatestCommon own (only 1) n) v_is common)
            | inr none ↦ absurd (not_refused {X = ℕ × List ℕ} (refusal.Version (only mark.0) own) (version, rest) (rw (other, none) at to_mark))
          ]
    ]

pub version_from : (own : Versions) (form : Form) (told : Option Told) (version : ℕ) (rest : List ℕ) → form_of told ≡ form → 1 ≤ (versions_of told).lowest → IsGreatestCommon own (versions_of told) version
    → version_at own form (version_bytes told ++ rest) ≡ Ok (version, rest)
unfolding version_at new_at
version_from own form None version rest is some common =
    subst (λ f. version_at own f (1 ∷ rest) ≡ Ok (version, rest)) is (step (agreed_at own (only 1) >>= λ v. Ok v) (λ v. Ok (v, rest)) version (version, rest) (step (agreed_at own (only 1)) (λ v. Ok v) version version (agreed_from own (only 1) version some common) refl) refl)
version_from own form (Some told) version rest is some common =
    subst (λ f. version_at own f (version_bytes (Some told) ++ rest) ≡ Ok (version, rest)) is (step (agreed_at own told.versions) (λ v. Ok (v, rest)) version (version, rest) (agreed_from own told.versions version some common) refl)

-- ---- the run

-- what is read of a run
pub record IsRunRead (heaps : ℕ) (bytes : List ℕ) (run : Option Run) (rest : List ℕ) : Type 0 where
  pub name : List ℕ
  pub start : List ℕ
  pub counters : List ℕ
  pub name_long : length name ≡ 16
  pub start_long : length start ≡ 8
  pub counters_long : length counters ≡ 8 * heaps
  pub split : bytes ≡ (name ++ (start ++ counters)) ++ rest
  pub is : run ≡ Some (run_told name start counters)

pub run_since : (heaps : ℕ) (bytes : List ℕ) (run : Option Run) (rest : List ℕ) → run_at New heaps bytes ≡ Ok (run, rest) → IsRunRead heaps bytes run rest
unfolding run_at
run_since heaps bytes run rest h =
    let (name, at_name, to_name) = both_ok (bytes_at 16 bytes) _ (run, rest) h in
    let (start, at_start, to_start) = both_ok (bytes_at 8 name.1) _ (run, rest) to_name in
    let (counters, at_counters, to_counters) = both_ok (bytes_at (8 * heaps) start.1) _ (run, rest) to_start in
    let pair = same_read {X = Option Run × List ℕ} (Some (run_told name.0 start.0 counters.0), counters.1) (run, rest) _ refl to_counters in
    let run_is : Some (run_told name.0 start.0 counters.0) ≡ run = λ i. (pair i).0 in
    let rest_is : counters.1 ≡ rest = λ i. (pair i).1 in
    let (name_long, name_split) = bytes_since 16 bytes name.0 name.1 at_name in
    let (start_long, start_split) = bytes_since 8 name.1 start.0 start.1 at_start in
    let (counters_long, counters_split) = bytes_since (8 * heaps) start.1 counters.0 counters.1 at_counters in
    let whole : bytes ≡ name.0 ++ (start.0 ++ (counters.0 ++ rest)) =
    name_split ∙ ap (λ l. name.0 ++ l) (start_split ∙ ap (λ l. start.0 ++ l) (counters_split ∙ ap (λ l. counters.0 ++ l) rest_is)) in
    record {
      name = name.0;
      start = start.0;
      counters = counters.0;
      name_long = name_long;
      start_long = start_long;
      counters_long = counters_long;
      split = whole ∙ sym (simp append_assoc);
      is = sym run_is;
    }

pub run_from : (form : Form) (heaps : ℕ) (told : Option Told) (rest : List ℕ) → form_of told ≡ form → IsToldIfNew heaps told → run_at form heaps (run_bytes told ++ rest) ≡ Ok (run_of told, rest)
unfolding run_at
run_from form heaps None rest is whole = subst (λ f. run_at f heaps rest ≡ Ok (None, rest)) is refl
run_from form heaps (Some told) rest is whole =
    let split : (told.name ++ (told.start ++ told.counters)) ++ rest ≡ told.name ++ (told.start ++ (told.counters ++ rest)) = simp append_assoc in
    let read : run_at New heaps (told.name ++ (told.start ++ (told.counters ++ rest))) ≡ Ok (run_of (Some told), rest) =
    step (bytes_at 16 (told.name ++ (told.start ++ (told.counters ++ rest)))) _ (told.name, told.start ++ (told.counters ++ rest)) _ (bytes_from 16 told.name (told.start ++ (told.counters ++ rest)) whole.name_long)
    (step (bytes_at 8 (told.start ++ (told.counters ++ rest))) _ (told.start, told.counters ++ rest) _ (bytes_from 8 told.start (told.counters ++ rest) whole.start_long)
    (step (bytes_at (8 * heaps) (told.counters ++ rest)) _ (told.counters, rest) _ (bytes_from (8 * heaps) told.counters rest whole.counters_long) refl)) in
    subst (λ f. run_at f heaps (run_bytes (Some told) ++ rest) ≡ Ok (run_of (Some told), rest)) is (rw split read)

-- ---- what is told

-- the versions and the run that were read, of which the terms stand between
pub record AreTold (own : Versions) (form : Form) (heaps version : ℕ) (run : Option Run) (versions after_versions at_run after_run : List ℕ) : Type 0 where
  pub told : Option Told
  pub in_form : form_of told ≡ form
  pub some : 1 ≤ (versions_of told).lowest
  pub common : IsGreatestCommon own (versions_of told) version
  pub whole : IsToldIfNew heaps told
  pub run_is : run ≡ run_of told
  pub versions_split : versions ≡ version_bytes told ++ after_versions
  pub run_split : at_run ≡ run_bytes told ++ after_run

old_run : (heaps : ℕ) (bytes : List ℕ) (run : Option Run) (rest : List ℕ) → run_at Old heaps bytes ≡ Ok (run, rest) → (run ≡ None) × (bytes ≡ rest)
unfolding run_at
old_run heaps bytes run rest h =
    let pair = same_read {X = Option Run × List ℕ} (None, bytes) (run, rest) _ refl h in
    ((λ i. (sym pair i).0), (λ i. (pair i).1))

pub told_since : (own : Versions) (form : Form) (heaps version : ℕ) (run : Option Run) (versions after_versions at_run after_run : List ℕ)
    → version_at own form versions ≡ Ok (version, after_versions) → run_at form heaps at_run ≡ Ok (run, after_run) → AreTold own form heaps version run versions after_versions at_run after_run
told_since own form heaps version run versions after_versions at_run after_run at_versions reads =
    elim (version_since own form versions version after_versions at_versions) [
      | InOld is said common ↦
          let (none, all) = old_run heaps at_run run after_run (subst (λ f. run_at f heaps at_run ≡ Ok (run, after_run)) (sym is) reads) in
          record { told = None; in_form = is; some = omega arith; common = common; whole = tt; run_is = none; versions_split = said; run_split = all }
      | InNew range is said some common ↦
          let r = run_since heaps at_run run after_run (subst (λ f. run_at f heaps at_run ≡ Ok (run, after_run)) (sym is) reads) in
          record {
            told = Some (record { versions = range; name = r.name; start = r.start; counters = r.counters });
            in_form = is;
            some = some;
            common = common;
            whole = record { name_long = r.name_long; start_long = r.start_long; counters_long = r.counters_long };
            run_is = r.is;
            versions_split = said;
            run_split = r.split;
          }
    ]

-- ---- a peer

-- what is said before the secret
abbrev pub terms : Option Told → ℕ → ℕ → Rule → List ℕ
terms told peer heaps rule = front told peer heaps rule ++ run_bytes told

-- the parts of it
by_terms : (told : Option Told) (peer heaps : ℕ) (rule : Rule) (rest : List ℕ)
    → terms told peer heaps rule ++ rest ≡ magic ++ (version_bytes told ++ (peer ∷ heaps ∷ rule_byte (rule_of rule) ∷ (run_bytes told ++ rest)))
by_terms told peer heaps rule rest = simp append_assoc

-- a peer that was read
pub record IsPeer (side : Side) (bytes : List ℕ) (met : Met) (rest : List ℕ) : Type 0 where
  pub expected : IsExpected side met.peer
  pub told : Option Told
  pub agrees : Agrees side told met.version
  pub run_is : met.run ≡ run_of told
  pub split : bytes ≡ terms told met.peer side.heaps side.rule ++ rest

pub peer_since : (side : Side) (bytes : List ℕ) (met : Met) (rest : List ℕ) → peer_at side bytes ≡ Ok (met, rest) → IsPeer side bytes met rest
unfolding peer_at
peer_since side bytes met rest h =
    let (a, at_a, to_a) = both_ok (magic_at bytes) _ (met, rest) h in
    let (v, at_v, to_v) = both_ok (version_at side.versions side.form a) _ (met, rest) to_a in
    let (p, at_p, to_p) = both_ok (site_at side.site side.peers.now v.1) _ (met, rest) to_v in
    let (d, at_d, to_d) = both_ok (heaps_at side.heaps p.1) _ (met, rest) to_p in
    let (e, at_e, to_e) = both_ok (rule_at side.rule d) _ (met, rest) to_d in
    let (r, at_r, to_r) = both_ok (run_at side.form side.heaps e) _ (met, rest) to_e in
    let pair = same_read {X = Met × List ℕ} (record { peer = p.0; version = v.0; run = r.0 }, r.1) (met, rest) _ refl to_r in
    let (said, other, among) = site_since side.site side.peers.now v.1 p.0 p.1 at_p in
    let t = told_since side.versions side.form side.heaps v.0 r.0 a v.1 e r.1 at_v at_r in
    let whole : bytes ≡ magic ++ (version_bytes t.told ++ (p.0 ∷ side.heaps ∷ rule_byte (rule_of side.rule) ∷ (run_bytes t.told ++ r.1))) =
    magic_since bytes a at_a ∙ ap (λ x. magic ++ x) (t.versions_split
    ∙ ap (λ x. version_bytes t.told ++ x) (said ∙ ap (λ x. p.0 ∷ x) (heaps_since side.heaps p.1 d at_d
    ∙ ap (λ x. side.heaps ∷ x) (rule_since side.rule d e at_e ∙ ap (λ x. rule_byte (rule_of side.rule) ∷ x) t.run_split)))) in
    let read : IsPeer side bytes (record { peer = p.0; version = v.0; run = r.0 }) r.1 =
    record {
      expected = (other, among);
      told = t.told;
      agrees = record { form = t.in_form; some = t.some; common = t.common; whole = t.whole };
      run_is = t.run_is;
      split = whole ∙ sym (by_terms t.told p.0 side.heaps side.rule r.1);
    } in
    let P : Met × List ℕ → Type 0 = λ x. IsPeer side bytes x.0 x.1 in
    subst P pair read

pub peer_from : (side : Side) (told : Option Told) (peer version : ℕ) (rest : List ℕ) → IsExpected side peer → Agrees side told version
    → peer_at side (terms told peer side.heaps side.rule ++ rest) ≡ Ok (record { peer = peer; version = version; run = run_of told }, rest)
unfolding peer_at
peer_from side told peer version rest (other, among) agrees =
    let tail : List ℕ = run_bytes told ++ rest in
    let after : List ℕ = peer ∷ side.heaps ∷ rule_byte (rule_of side.rule) ∷ (run_bytes told ++ rest) in
    let read : peer_at side (magic ++ (version_bytes told ++ (peer ∷ side.heaps ∷ rule_byte (rule_of side.rule) ∷ (run_bytes told ++ rest)))) ≡ Ok (record { peer = peer; version = version; run = run_of told }, rest) =
    step (magic_at (magic ++ (version_bytes told ++ (peer ∷ side.heaps ∷ rule_byte (rule_of side.rule) ∷ (run_bytes told ++ rest))))) _ (version_bytes told ++ (peer ∷ side.heaps ∷ rule_byte (rule_of side.rule) ∷ (run_bytes told ++ rest))) _
    (magic_from (version_bytes told ++ (peer ∷ side.heaps ∷ rule_byte (rule_of side.rule) ∷ (run_bytes told ++ rest))))
    (step (version_at side.versions side.form (version_bytes told ++ (peer ∷ side.heaps ∷ rule_byte (rule_of side.rule) ∷ (run_bytes told ++ rest)))) _ (version, peer ∷ side.heaps ∷ rule_byte (rule_of side.rule) ∷ (run_bytes told ++ rest)) _
    (version_from side.versions side.form told version (peer ∷ side.heaps ∷ rule_byte (rule_of side.rule) ∷ (run_bytes told ++ rest)) agrees.form agrees.some agrees.common)
    (step (site_at side.site side.peers.now (peer ∷ side.heaps ∷ rule_byte (rule_of side.rule) ∷ (run_bytes told ++ rest))) _ (peer, side.heaps ∷ rule_byte (rule_of side.rule) ∷ (run_bytes told ++ rest)) _
    (site_from side.site side.peers.now peer (side.heaps ∷ rule_byte (rule_of side.rule) ∷ (run_bytes told ++ rest)) other among)
    (step (heaps_at side.heaps (side.heaps ∷ rule_byte (rule_of side.rule) ∷ (run_bytes told ++ rest))) _ (rule_byte (rule_of side.rule) ∷ (run_bytes told ++ rest)) _
    (heaps_from side.heaps (rule_byte (rule_of side.rule) ∷ (run_bytes told ++ rest)))
    (step (rule_at side.rule (rule_byte (rule_of side.rule) ∷ (run_bytes told ++ rest))) _ (run_bytes told ++ rest) _ (rule_from side.rule (run_bytes told ++ rest))
    (step (run_at side.form side.heaps (run_bytes told ++ rest)) _ (run_of told, rest) _ (run_from side.form side.heaps told rest agrees.form agrees.whole) refl))))) in
    rw (by_terms told peer side.heaps side.rule rest) read

-- ---- the secret

pub open_since : (bytes rest : List ℕ) → open_at bytes ≡ Ok rest → bytes ≡ 0 ∷ rest
unfolding open_at
open_since bytes rest h =
    let (byte, read, test) = both_ok (byte_at bytes) _ rest h in
    let (same, is_rest) = passed (eqb byte.0 0) byte.1 rest refusal.SecretThere test in
    byte_since bytes byte.0 byte.1 read ∙ (λ i. eqb-true byte.0 0 same i ∷ is_rest i)

pub open_from : (rest : List ℕ) → open_at (0 ∷ rest) ≡ Ok rest
unfolding open_at
open_from rest = refl

pub nonce_since : (bytes nonce rest : List ℕ) → nonce_at bytes ≡ Ok (nonce, rest) → (length nonce ≡ 16) × (bytes ≡ 1 ∷ nonce ++ rest)
unfolding nonce_at
nonce_since bytes nonce rest h =
    let (byte, read, test) = both_ok (byte_at bytes) _ (nonce, rest) h in
    elim (cases_Bool (eqb byte.0 1)) [
      | inl one ↦
          let (long, split) = bytes_since 16 byte.1 nonce rest (rw one at test) in
          (long, byte_since bytes byte.0 byte.1 read ∙ (λ i. eqb-true byte.0 1 one i ∷ split i))
      | inr none ↦ let never : Err (Refused refusal.SecretHere) ≡ Ok (nonce, rest) = rw none at test in cc
    ]

pub nonce_from : (nonce rest : List ℕ) → length nonce ≡ 16 → nonce_at (1 ∷ nonce ++ rest) ≡ Ok (nonce, rest)
unfolding nonce_at
nonce_from nonce rest long = bytes_from 16 nonce rest long

pub answer_since : (owed bytes rest : List ℕ) → answer_at owed bytes ≡ Ok rest → bytes ≡ owed ++ rest
unfolding answer_at
answer_since owed bytes rest h =
    let (said, read, test) = both_ok (bytes_at 32 bytes) _ rest h in
    let (same, is_rest) = passed (bytes_eq said.0 owed) said.1 rest refusal.Answer test in
    (bytes_since 32 bytes said.0 said.1 read).1 ∙ (λ i. (bytes_eq-Decides said.0 owed).0 same i ++ is_rest i)

pub answer_from : (owed rest : List ℕ) → length owed ≡ 32 → answer_at owed (owed ++ rest) ≡ Ok rest
unfolding answer_at
answer_from owed rest long =
    let same : bytes_eq owed owed ≡ true = (bytes_eq-Decides owed owed).1 refl in
    step (bytes_at 32 (owed ++ rest)) _ (owed, rest) rest (bytes_from 32 owed rest long) (rw same refl)

pub answer_long : (key : List ℕ) (version : ℕ) (own other : Claimant) → length (answer key version own other) ≡ 32
answer_long key version own other = hmac_long key (claim version own other)
