-- Steps of a reading.
use Rattle.std.proofs.Common.{◌≡◌, ◌≤◌, ◌⊎◌, ℕ, ℤ, pos, negsuc, leb, Bool, ◌&&◌, List, Option, Some, None, Result, Ok, Err, refl, sym, ap, ◌∙◌, inl, inr, arith}
use Rattle.std.proofs.lemmas.Bool.{cases_Bool, and_parts, leb-true, le-leb}
use Rattle.std.specs.Option.{ok_or}
use Rattle.toml.specs.Data.{Data, string, integer, float, boolean, datetime, array, table as subtable, Items, Members, as_bool, as_integer, as_array, as_str, as_table}
use Rattle.zq_settings.specs.Numbers.{within}
use Rattle.zq_settings.specs.Settings.{◌>>=◌}
use Rattle.zq_settings.specs.declared.why.Why.{Why}

-- two steps that gave a value each gave one
pub both_ok : {A B : Type 0} (r : Result A Why) (f : A → Result B Why) (b : B) → (r >>= f) ≡ Ok b → (a : A) × (r ≡ Ok a) × (f a ≡ Ok b)
both_ok (Ok a) f b h = (a, refl, h)
both_ok (Err why) f b h = cc

-- the value of one step, twice
pub ok_same : {A : Type 0} (a b : A) (r s : Result A Why) → r ≡ Ok a → s ≡ Ok b → r ≡ s → a ≡ b
ok_same a b r s is_a is_b same = let there : Ok a ≡ Ok b = sym is_a ∙ same ∙ is_b in cc

-- the value of a step
pub some_since : {A : Type 0} (o : Option A) (why : Why) (a : A) → ok_or o why ≡ Ok a → o ≡ Some a
some_since (Some x) why a h = cc
some_since None why a h = cc

-- the one kind of value of which there is a whole number, an array, a text, a truth value, a table
pub integer_since : (d : Data) (z : ℤ) → as_integer d ≡ Some z → d ≡ integer z
integer_since (integer x) z h = cc
integer_since (string s) z h = cc
integer_since (float x) z h = cc
integer_since (boolean b) z h = cc
integer_since (datetime t) z h = cc
integer_since (array ds) z h = cc
integer_since (subtable ms) z h = cc

pub array_since : (d : Data) (es : Items) → as_array d ≡ Some es → d ≡ array es
array_since (array ds) es h = cc
array_since (integer x) es h = cc
array_since (string s) es h = cc
array_since (float x) es h = cc
array_since (boolean b) es h = cc
array_since (datetime t) es h = cc
array_since (subtable ms) es h = cc

pub text_since : (d : Data) (word : List ℕ) → as_str d ≡ Some word → d ≡ string word
text_since (string s) word h = cc
text_since (integer x) word h = cc
text_since (array ds) word h = cc
text_since (float x) word h = cc
text_since (boolean b) word h = cc
text_since (datetime t) word h = cc
text_since (subtable ms) word h = cc

pub bool_since : (d : Data) (b : Bool) → as_bool d ≡ Some b → d ≡ boolean b
bool_since (boolean c) b h = cc
bool_since (string s) b h = cc
bool_since (integer x) b h = cc
bool_since (array ds) b h = cc
bool_since (float x) b h = cc
bool_since (datetime t) b h = cc
bool_since (subtable ms) b h = cc

pub table_since : (d : Data) (ms : Members) → as_table d ≡ Some ms → d ≡ subtable ms
table_since (subtable ns) ms h = cc
table_since (string s) ms h = cc
table_since (integer x) ms h = cc
table_since (float x) ms h = cc
table_since (boolean b) ms h = cc
table_since (datetime t) ms h = cc
table_since (array ds) ms h = cc

-- a number that lies between the bounds
pub within_since : (least most n : ℕ) (z : ℤ) → within least most z ≡ Some n → (z ≡ pos n) × (least ≤ n) × (n ≤ most)
within_since least most n (pos k) h =
    elim (cases_Bool (leb least k && leb k most)) [
      | inl in' ↦
          let same : k ≡ n = let there : Some k ≡ Some n = rw in' at h in cc in
          let parts = and_parts (leb least k) (leb k most) in' in
          (ap pos same, omega (arith, leb-true least k parts.0), omega (arith, leb-true k most parts.1))
      | inr out ↦ let none : None ≡ Some n = rw out at h in cc
    ]
within_since least most n (negsuc k) h = cc

pub within_from : (least most n : ℕ) → least ≤ n → n ≤ most → within least most (pos n) ≡ Some n
within_from least most n low high = rw (le-leb least n low, le-leb n most high)

-- a step that gave none is the refusal, or the next step's is
pub both_err : {A B : Type 0} (r : Result A Why) (f : A → Result B Why) (why : Why) → (r >>= f) ≡ Err why → (r ≡ Err why) ⊎ ((a : A) × (r ≡ Ok a) × (f a ≡ Err why))
both_err (Ok a) f why h = inr (a, refl, h)
both_err (Err refused) f why h = let same : refused ≡ why = cc in inl (ap Err same)

pub none_since : {A : Type 0} (o : Option A) (refused why : Why) → ok_or o refused ≡ Err why → (o ≡ None) × (why ≡ refused)
none_since (Some x) refused why h = cc
none_since None refused why h = let same : why ≡ refused = cc in (refl, same)
