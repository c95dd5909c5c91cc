-- States that were written are read again.

use Rattle.std.proofs.Common.{ap, append_assoc, append-nil, arith, inl, inr, length, List, map, None, Ok, Option, refl, Some, subst, sym, [], ℕ, ◌+◌, ◌++◌, ◌<◌, ◌≤◌, ◌∙◌, ◌∷◌, ◌≡◌, ◌≢◌}
use Rattle.std.proofs.lemmas.List.{length-append, length-map}
use Rattle.std.specs.Prelude.{Result}
use Rattle.zq_entry.proofs.SparseLemmas.{rising-length}
use Rattle.zq_merge.proofs.AgainKeys.{IsSoundKey, keys_again}
use Rattle.zq_merge.proofs.AgainParts.{rule_again, vector_again}
use Rattle.zq_merge.proofs.KeyLists.{by_key_above, rows_by_key}
use Rattle.zq_merge.specs.Built.{AreKeysAbove}
use Rattle.zq_merge.specs.Fields.{frame_at, keys_at, rule_at, vector_at}
use Rattle.zq_merge.specs.Frame.{Frame}
use Rattle.zq_merge.specs.Groups.{AreWritable}
use Rattle.zq_merge.specs.Keys.{KeyRows, MemberRow, by_key, key_rows, row_in, rows_in}
use Rattle.zq_merge.specs.Sound.{IsSoundRow}
use Rattle.zq_merge.specs.Spelling.{frame_bytes, keys_bytes, rule_bytes, vector_bytes}
use Rattle.zq_merge.specs.State.{HasSpelling, IsState, fields, frame_in, front_at, heap_image, state_at, state_spelling, version_at}
use Rattle.zq_merge.specs.Version.{HasRule, HasVector, version_byte}
use Rattle.zq_merge.specs.declared.fault.StateFault.{StateFault}
use Rattle.zq_merge.specs.declared.version.Version.{Version}
use Rattle.zq_merge.specs.declared.version.Version.TheVariants.{One, Three, Two}
use Rattle.zq_model.proofs.BoundedImages.{bounded_row}
use Rattle.zq_model.proofs.Listing.{in_flat_map}
use Rattle.zq_model.proofs.RowLists.{rows_are, rows_back}
use Rattle.zq_model.specs.Bounded.{IsBoundedAt}
use Rattle.zq_model.specs.Image.{Image, join}
use Rattle.zq_model.specs.Rows.{OfSite, Row, image_of_rows, rows_of}
use Rattle.zq_model.specs.Sets.{IsCounters, IsHeaps, IsIn, SITES}
use Rattle.zq_fields.proofs.PartsAgain.{heap_read}
use Rattle.zq_fields.specs.Reading.{heap_at}
use Rattle.zq_shard.specs.Shard.{HeapImage, IsHeapImage}

-- ---- what stands before the keys

frame_of : (v : Version) (whole : ℕ) (frame : Frame) (b0 b1 b2 b3 : List ℕ) → heap_at whole b0 ≡ Ok (frame.heap, b1) → rule_at v whole b1 ≡ Ok (frame.rule, b2) → vector_at v whole b2 ≡ Ok (frame.vector, b3) → frame_at v whole b0 ≡ Ok (frame, b3)
unfolding frame_at
frame_of v whole frame b0 b1 b2 b3 heap rule vector = rw (heap, rule, vector) refl

pub frame_again : (v : Version) (whole : ℕ) (frame : Frame) (rest : List ℕ) → HasRule v frame.rule → HasVector v frame.vector → IsHeaps frame.heap.heaps → frame.heap.heap < frame.heap.heaps → IsCounters frame.vector → frame_at v whole (frame_bytes v frame ++ rest) ≡ Ok (frame, rest)
unfolding frame_bytes
frame_again v whole frame rest rule vector heaps heap counters =
    let b2 = vector_bytes v frame.vector ++ rest in
    let b1 = rule_bytes v frame.rule ++ b2 in
    ap (λ b. frame_at v whole (frame.heap.heaps ∷ (frame.heap.heap ∷ b))) (append_assoc (rule_bytes v frame.rule) (vector_bytes v frame.vector) rest)
    ∙ frame_of v whole frame (frame.heap.heaps ∷ (frame.heap.heap ∷ b1)) b1 b2 rest (heap_read whole frame.heap b1 heaps heap) (rule_again v whole frame.rule b2 rule) (vector_again v whole frame.vector rest vector counters)

-- ---- the rows of a state

first_of_row : (items : List OfSite) → items ≢ [] → (p : OfSite) × IsIn p items × (1 ≤ length items)
first_of_row [] some = absurd (some refl)
first_of_row (p ∷ items) some = (p, inl refl, omega arith)

pub sound_row : (s : HeapImage) → IsHeapImage s → (row : Row) → IsIn row (rows_of s.image) → IsSoundRow (frame_in s) row
sound_row s sound row here =
    let is = (rows_are s.image sound.bounded.entries).each row here in
    let bounded = bounded_row s.heaps s.heap s.image row sound.bounded here in
    let first = first_of_row row.additions is.some in
    let at : IsBoundedAt s.heaps s.heap s.image.vector row.key row.member first.0.0 first.0.1 = bounded first.0.0 first.0.1 first.1 in
    record {
      key = at.key;
      member = at.member;
      placed = at.placed;
      some = first.2;
      by_site = is.by_site;
      bounded = λ p there.
          let b : IsBoundedAt s.heaps s.heap s.image.vector row.key row.member p.0 p.1 = bounded p.0 p.1 there in
          record { counter = b.counter; score = b.score; wide = b.wide; sums = b.sums };
    }

-- ---- how many keys and members there are

some_members : (members : List MemberRow) → members ≢ [] → 1 ≤ length members
some_members [] some = absurd (some refl)
some_members (m ∷ members) some = omega arith

in_map_row : (key : List ℕ) (m : MemberRow) (members : List MemberRow) → IsIn m members → IsIn (row_in key m) (map (row_in key) members)
in_map_row key m [] here = absurd here
in_map_row key m (n ∷ members) (inl same) = inl (ap (row_in key) same)
in_map_row key m (n ∷ members) (inr later) = inr (in_map_row key m members later)

few_keys : (before : Option (List ℕ)) (keys : List KeyRows) → AreKeysAbove before keys → length keys ≤ length (rows_in keys)
few_keys before [] above = omega arith
few_keys before (k ∷ keys) above =
    let rest = few_keys (Some k.key) keys above.1.1.1 in
    let some = some_members k.members above.1.0 in
    omega (arith, length-append (key_rows k) (rows_in keys), length-map k.members (row_in k.key))

few_members : (keys : List KeyRows) (k : KeyRows) → IsIn k keys → length k.members ≤ length (rows_in keys)
few_members [] k here = absurd here
few_members (n ∷ keys) k (inl same) =
    let e = ap (λ o. length o.members) same in
    omega (arith, length-append (key_rows n) (rows_in keys), length-map n.members (row_in n.key))
few_members (n ∷ keys) k (inr later) =
    let rest = few_members keys k later in
    omega (arith, length-append (key_rows n) (rows_in keys))

pub sound_key : (s : HeapImage) → IsState s → (k : KeyRows) → IsIn k (by_key (rows_of s.image)) → IsSoundKey (frame_in s) k
sound_key s sound k here =
    let rows = rows_of s.image in
    let few = few_members (by_key rows) k here in
    let same = ap length (rows_by_key rows) in
    let bound = sound.few in (
      omega arith,
      λ m there.
          sound_row s sound.kept (row_in k.key m) (subst (IsIn (row_in k.key m)) (rows_by_key rows) (in_flat_map key_rows (row_in k.key m) k (by_key rows) here (in_map_row k.key m k.members there))),
    )

-- ---- states

version_again : (v : Version) (rest : List ℕ) → version_at (version_byte v ∷ rest) ≡ Ok (v, rest)
version_again One rest = refl
version_again Two rest = refl
version_again Three rest = refl

front_of : (v : Version) (frame : Frame) (keys : List KeyRows) (b0 b1 b2 b3 : List ℕ) → version_at b0 ≡ Ok (v, b1) → frame_at v (length b0) b1 ≡ Ok (frame, b2) → keys_at v (length b0) frame b2 ≡ Ok (keys, b3) → front_at b0 ≡ Ok (heap_image frame keys, b3)
unfolding front_at
front_of v frame keys b0 b1 b2 b3 version head rows = rw (version, head, rows) refl

-- a state is the image of its keys
image_back : (s : HeapImage) → IsState s → heap_image (frame_in s) (by_key (rows_of s.image)) ≡ s
image_back s sound =
    let same : image_of_rows s.image.vector (rows_in (by_key (rows_of s.image))) ≡ s.image = ap (image_of_rows s.image.vector) (rows_by_key (rows_of s.image)) ∙ rows_back s.image sound.kept.bounded.entries in
    ap (λ image. record { heap = s.heap; heaps = s.heaps; rule = s.rule; image = image }) same

-- a spelling, whatever follows it, is read as its state
pub front_again : (v : Version) (s : HeapImage) (rest : List ℕ) → IsState s → HasSpelling v s → front_at (state_spelling v s ++ rest) ≡ Ok (s, rest)
unfolding fields
front_again v s rest sound has =
    let frame = frame_in s in
    let keys = by_key (rows_of s.image) in
    let counters = sound.kept.bounded.counters in
    let whole = length (state_spelling v s ++ rest) in
    let b2 = keys_bytes v keys ++ rest in
    let above = by_key_above (rows_of s.image) (rows_are s.image sound.kept.bounded.entries).in_order in
    let few = few_keys None keys above in
    let same = ap length (rows_by_key (rows_of s.image)) in
    let bound = sound.few in
    front_of v frame keys (state_spelling v s ++ rest) (fields v s ++ rest) b2 rest (version_again v (fields v s ++ rest))
    (ap (frame_at v whole) (append_assoc (frame_bytes v frame) (keys_bytes v keys) rest) ∙ frame_again v whole frame b2 has.0 has.1 sound.kept.heaps sound.kept.heap counters)
    (keys_again v whole frame keys rest has.1 counters (omega arith) above (sound_key s sound))
    ∙ ap (λ t. Ok (t, rest)) (image_back s sound)

state_of : (s : HeapImage) (bytes : List ℕ) → front_at bytes ≡ Ok (s, []) → state_at bytes ≡ Ok s
state_of s bytes e = rw e refl

-- a spelling is read as its state
pub state_again : (v : Version) (s : HeapImage) → IsState s → HasSpelling v s → state_at (state_spelling v s) ≡ Ok s
state_again v s sound has =
    state_of s (state_spelling v s) (ap front_at (sym (append-nil (state_spelling v s))) ∙ front_again v s [] sound has)

same_state : (v w : Version) (a b : HeapImage) (x y : List ℕ) → IsState a → HasSpelling v a → IsState b → HasSpelling w b → state_spelling v a ++ x ≡ state_spelling w b ++ y → (a ≡ b) × (x ≡ y)
same_state v w a b x y sa ia sb ib same =
    let p : HeapImage × List ℕ = (a, x) in
    let q : HeapImage × List ℕ = (b, y) in
    let both : ◌≡◌ {A = Result (HeapImage × List ℕ) StateFault} (Ok p) (Ok q) = sym (front_again v a x sa ia) ∙ (ap front_at same ∙ front_again w b y sb ib) in
    let pair : p ≡ q = cc in
    (λ i. (pair i).0, λ i. (pair i).1)

same_version : (v w : Version) (a b : HeapImage) (x y : List ℕ) → state_spelling v a ++ x ≡ state_spelling w b ++ y → v ≡ w
same_version One One a b x y same = refl
same_version Two Two a b x y same = refl
same_version Three Three a b x y same = refl
same_version One Two a b x y same = cc
same_version One Three a b x y same = cc
same_version Two One a b x y same = cc
same_version Two Three a b x y same = cc
same_version Three One a b x y same = cc
same_version Three Two a b x y same = cc

-- equal bytes that begin with spellings begin with the same one
pub same_again : (v w : Version) (a b : HeapImage) (x y : List ℕ) → IsState a → HasSpelling v a → IsState b → HasSpelling w b → state_spelling v a ++ x ≡ state_spelling w b ++ y → (v ≡ w) × ((a ≡ b) × (x ≡ y))
same_again v w a b x y sa ia sb ib same = (same_version v w a b x y same, same_state v w a b x y sa ia sb ib same)

-- a state that was written and read merges as itself
pub merged_same : (v : Version) (s t : HeapImage) (a : Image) → IsState s → HasSpelling v s → state_at (state_spelling v s) ≡ Ok t → (join a t.image ≡ join a s.image) × (join t.image a ≡ join s.image a)
merged_same v s t a sound has read =
    let both : ◌≡◌ {A = Result HeapImage StateFault} (Ok t) (Ok s) = sym read ∙ state_again v s sound has in
    let same : t ≡ s = cc in
    (ap (λ u. join a u.image) same, ap (λ u. join u.image a) same)

-- the rows of a state can be written
pub writable_rows : (s : HeapImage) (rows : List Row) → IsHeapImage s → rows ≡ rows_of s.image → AreWritable rows
writable_rows s rows kept is row here =
    let sound = sound_row s kept row (subst (IsIn row) is here) in
    let few = rising-length 0 SITES row.additions (omega arith) sound.by_site in
    record { key = sound.key; member = sound.member; additions = omega arith }

-- what is written is the state's spelling
pub written_whole : (s : HeapImage) (rows : List Row) (none out all : List ℕ) → none ≡ [] → rows ≡ rows_of s.image → out ≡ none ++ 3 ∷ frame_bytes Three (frame_in s) → all ≡ out ++ keys_bytes Three (by_key rows) → all ≡ state_spelling Three s
unfolding fields
written_whole s rows none out all empty is first second =
    second ∙ (ap (λ b. b ++ keys_bytes Three (by_key rows)) (first ∙ ap (λ b. b ++ 3 ∷ frame_bytes Three (frame_in s)) empty) ∙ ap (λ rs. 3 ∷ (frame_bytes Three (frame_in s) ++ keys_bytes Three (by_key rs))) is)
