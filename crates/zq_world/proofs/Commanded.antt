-- A site that does a command: what its books and the list of what was made are then.

use Rattle.std.proofs.Common.{List, Some, Vec, [], ap, arith, false, length, refl, set, subst, sym, ℕ, ◌+◌, ◌<◌, ◌∙◌, ◌∷◌, ◌≡◌, ◌≤◌}
use Rattle.std.proofs.lemmas.Bool.{cond-false, cond-true}
use Rattle.std.proofs.lemmas.Option.{slice_get_within}
use Rattle.std.specs.Borrow.{Bor}
use Rattle.std.specs.Prelude.{Option, if◌then◌else◌, slice_get, slice_set}
use Rattle.std.specs.declared.alloc.Global.{Global}
use Rattle.zq_commands.proofs.SitePlaces.{heaps_are, site_lending}
use Rattle.zq_commands.specs.Lending.{IsDated}
use Rattle.zq_commands.specs.Running.{EndsOver}
use Rattle.zq_commands.specs.SiteBooks.{AreOfSite}
use Rattle.zq_commands.specs.VecBooks.{heaps_in, lending_of, rule_in}
use Rattle.zq_dots.specs.Placed.{Placed}
use Rattle.zq_model.specs.Books.{Book}
use Rattle.zq_model.specs.Bounded.{HasShortNames}
use Rattle.zq_model.specs.Operation.{Operation}
use Rattle.zq_model.specs.Rule.{Rule}
use Rattle.zq_model.specs.Sets.{IsIn, IsWorld, SITES}
use Rattle.zq_model.specs.Lent.{queues_of}
use Rattle.zq_model.specs.Moves.{Queues}
use Rattle.zq_semantics.specs.Plan.{Plan, plan_of}
use Rattle.zq_semantics.specs.Replies.{bytes_of}
use Rattle.zq_semantics.specs.Run.{ForCopies, LAST_COUNT, Number, cut_error, cut_reply}
use Rattle.zq_resp.specs.Reply.{reply_bytes}
use Rattle.zq_resp.specs.declared.reply.Reply.{Reply}
use Rattle.zq_semantics.proofs.InRange.{moves_sound}
use Rattle.zq_semantics.proofs.Kept.{IsKept, world_of}
use Rattle.zq_semantics.proofs.KeptRuns.{kept_always, short_over}
use Rattle.zq_semantics.proofs.NearBooks.{same_plan}
use Rattle.zq_semantics.specs.Books.{AreBooksOf, AreSound, AreUnworn, greatest_stamp}
use Rattle.zq_semantics.specs.Doing.{Done, done_by, done_command, is_ping, queues_for, unchanged}
use Rattle.zq_semantics.specs.Reading.{heaps_in as heaps_of_all, queues_over}
use Rattle.zq_semantics.specs.State.{State, is_worn, next_stamp}
use Rattle.zq_words.specs.Command.{Command, Zpopnear}
use Rattle.zq_words.specs.Limits.{IsWithinLimits}
use Rattle.zq_words.specs.Shown.{shown}
use Rattle.zq_words.specs.Words.{Word}
use Rattle.zq_words.specs.declared.kind.Kind.{Kind}
use Rattle.zq_words.specs.declared.kind.Kind.TheVariants as kinds
use Rattle.zq_world.proofs.Dones.{IsDoneAt, command_done, ran_done}
use Rattle.zq_world.proofs.Handed.{stamp_next, unworn_if, worn_if}
use Rattle.zq_world.proofs.NearDones.{first_for, one_is, ran_wide}
use Rattle.zq_world.proofs.SeenBooks.{stamp_above}
use Rattle.zq_world.proofs.SitesOf.{of_site, rule_of_site}
use Rattle.zq_world.proofs.Standing.{stands_set}
use Rattle.zq_world.proofs.ToldRuns.{among_placed}
use Rattle.zq_world.specs.Outcomes.{Ran, RanBy, RanNear}
use Rattle.zq_world.specs.Play.{Holds, IsDone, Played, Stands, run_of}
use Rattle.zq_world.specs.Told.{AreAmong, lending_told}
use Rattle.zq_world.specs.declared.outcome.Outcome.{Outcome}
use Rattle.zq_world.specs.declared.player.Player.{Player}

-- a command that asks for a stamp, where the site has one
stamped : (played : Played) (site w1 w2 : ℕ) (st : State) (command : Command) (queues : Queues) → is_ping command ≡ false → is_worn played.heaps st site ≡ false →
    done_command played.rule played.heaps site w1 w2 st command queues ≡ done_by played.heaps site (next_stamp played.heaps st site) (plan_of command queues) (λ k. cut_reply command queues k Number) st
stamped played site w1 w2 st command queues asks unworn =
    let K = played.heaps in
    let after : Done = done_by K site (next_stamp K st site) (plan_of command queues) (λ k. cut_reply command queues k Number) st in
    let last : Done = unchanged st (bytes_of (cut_error 0 Number)) in
    cond-false (is_ping command) (unchanged st (bytes_of (plan_of command queues).reply)) (if is_worn K st site then last else after) asks ∙ cond-false (is_worn K st site) last after unworn

module _ (played : Played) (player : Player) (held : Holds played player) (site : ℕ) (books : Vec Book Global) (at : slice_get player.sites.items site ≡ Some books) where
  abbrev K : ℕ
  K = played.heaps

  abbrev st : State
  st = (run_of played).now

  kept : IsKept K (run_of played).past st
  kept = kept_always played.rule K played.sites played.events held.playable

  its : AreBooksOf played.rule K st site books.items
  its = held.stands.each site books at

  world : IsWorld K (st.sets site)
  world = world_of K (run_of played).past st kept site

  short : (o : Operation) → IsIn o (st.sets site) → HasShortNames o
  short o i = kept.short o (kept.now.within site o i)

  pub of_its : AreOfSite books.items
  of_its = of_site played.rule K st site books.items held.playable.heaps its world short

  ruled : rule_in books.items ≡ played.rule
  ruled = rule_of_site played.rule K st site books.items held.playable.heaps its

  below : site < SITES
  below = let inside = slice_get_within player.sites.items site books at in omega (arith, inside, held.stands.number, held.playable.few)

  among : AreAmong K player.made.items
  among = subst (AreAmong K) (sym held.stands.told) (among_placed K st.made)

  number : heaps_in books.items ≡ K
  number = heaps_are books.items of_its ∙ its.number

  pub many : (2 ≤ length books.items) × (length books.items ≤ 16)
  many = let is = its.number in (omega (arith, is, held.two), omega (arith, is, held.playable.heaps.1))

  pub dated : (stamp : ℕ) → stamp ≡ greatest_stamp books.items → stamp < LAST_COUNT → IsDated (stamp + 1) (lending_of books.items)
  dated stamp is below = (omega (arith, below), λ b here. let above = stamp_above books.items b here in omega (arith, is, above))

  module _ (w1 w2 stamp : ℕ) (left : Outcome) (unworn : AreUnworn left.books.items) where
    abbrev queues : Command → Queues
    queues command = queues_for played.rule K (st.sets site) w1 w2 command

    over_all : (command : Command) → IsWithinLimits command → Ran site stamp command books.items player.made.items left →
        IsDoneAt played.rule K site st (done_by K site stamp (plan_of command (queues_over played.rule (st.sets site) (heaps_of_all K))) (λ k. cut_reply command (queues_over played.rule (st.sets site) (heaps_of_all K)) k Number) st)
        left.books.items left.made.items (reply_bytes left.reply)
    over_all command limits ran =
        command_done played.rule K site stamp held.playable.heaps below st books.items player.made.items world (kept.now.closed site) its held.stands.told command left.books.items left.made.items
        (reply_bytes left.reply) ruled short limits unworn (ran.heaps K number among).1 ran.run

    over_near : (key : Word) → IsWithinLimits (Zpopnear key) → RanNear site stamp (Zpopnear key) key w1 w2 books.items player.made.items left →
        IsDoneAt played.rule K site st (done_by K site stamp (plan_of (Zpopnear key) (queues (Zpopnear key))) (λ k. cut_reply (Zpopnear key) (queues (Zpopnear key)) k Number) st)
        left.books.items left.made.items (reply_bytes left.reply)
    over_near key limits ran =
        let rule = played.rule in
        let S = st.sets site in
        let made = player.made.items in
        let told = left.made.items in
        let bytes = reply_bytes left.reply in
        let all : Queues = queues (Zpopnear key) in
        let its_queues : Queues = queues_of rule (ran.old ∷ []) in
        let book = its.each ran.place ran.old ran.found in
        let first = first_for rule K st site books.items its w1 w2 key ran.old held.two ruled ran.first in
        let alone = subst (λ (r : Rule). EndsOver site stamp ForCopies (plan_of (Zpopnear key) (queues_of r (ran.old ∷ []))) (cut_reply (Zpopnear key) (queues_of r (ran.old ∷ [])))
        (lending_told (ran.old ∷ []) made) (lending_told (ran.new ∷ []) told) bytes false) book.ruled ran.run in
        let ran_all = ran_wide rule K site stamp st books.items world its (site_lending books.items of_its) ran.place ran.old ran.found key all first ran.new made told bytes alone in
        let same = ap (plan_of (Zpopnear key)) (sym (one_is rule K st site books.items its ran.place ran.old ran.found)) ∙ same_plan key its_queues all first in
        let sound = subst (λ (p : Plan). AreSound p.moves) same
        (moves_sound (Zpopnear key) (queues_over rule S (ran.place ∷ [])) limits (short_over rule K S (ran.place ∷ []) world short)) in
        let done = ran_done rule K site stamp held.playable.heaps below st books.items made world (kept.now.closed site) its held.stands.told (plan_of (Zpopnear key) all) (cut_reply (Zpopnear key) all)
        (slice_set books.items ran.place ran.new) told bytes sound (subst AreUnworn ran.left_is unworn) (ran.heaps K book.heaps among).1 ForCopies ran_all in
        subst (λ (xs : List Book). IsDoneAt rule K site st (done_by K site stamp (plan_of (Zpopnear key) all) (λ k. cut_reply (Zpopnear key) all k Number) st) xs told bytes) (sym ran.left_is) done

    -- what ran is done
    done_of : (command : Command) → IsWithinLimits command → RanBy site stamp command w1 w2 books.items player.made.items left →
        IsDoneAt played.rule K site st (done_by K site stamp (plan_of command (queues command)) (λ k. cut_reply command (queues command) k Number) st) left.books.items left.made.items (reply_bytes left.reply)
    done_of (Zpopnear key) limits ran = over_near key limits ran
    done_of command limits ran = over_all command limits ran

    pub commanded : (command : Command) → is_ping command ≡ false → stamp ≡ greatest_stamp books.items + 1 → stamp ≤ LAST_COUNT → IsWithinLimits command →
        RanBy site stamp command w1 w2 books.items player.made.items left → (later : Player) → later.sites.items ≡ set player.sites.items site left.books → later.made.items ≡ left.made.items →
        IsDone played (done_command played.rule K site w1 w2 st command (queues command)) later left.reply
    commanded command asks is low limits ran later sites made =
        let unworn_site = unworn_if played.rule K st site books.items its (omega (arith, is, low)) in
        let next : stamp ≡ next_stamp K st site = is ∙ sym (stamp_next played.rule K st site books.items its (greatest_stamp books.items) refl) in
        let after : Done = done_by K site stamp (plan_of command (queues command)) (λ k. cut_reply command (queues command) k Number) st in
        let same : done_command played.rule K site w1 w2 st command (queues command) ≡ after
        = stamped played site w1 w2 st command (queues command) asks unworn_site ∙ ap (λ n. done_by K site n (plan_of command (queues command)) (λ k. cut_reply command (queues command) k Number) st) (sym next) in
        let its_done = done_of command limits ran in
        let stands = stands_set played.rule K played.sites st after.now player.sites.items player.made.items left.made.items site left.books held.stands (slice_get_within player.sites.items site books at)
        its_done.stands its_done.others its_done.list in
        subst (λ (d : Done). IsDone played d later left.reply) (sym same) (record {
          stands = subst (λ (xs : List (Vec Book Global)). Stands played.rule K played.sites after.now xs later.made.items) (sym sites)
              (subst (λ (ps : List Placed). Stands played.rule K played.sites after.now (set player.sites.items site left.books) ps) (sym made) stands);
          says = its_done.says;
        })

  -- where a stamp is at its last value nothing is done
  pub not_commanded : (w1 w2 : ℕ) (command : Command) (all : Queues) (reply : Reply) → is_ping command ≡ false → greatest_stamp books.items ≡ LAST_COUNT →
      reply_bytes reply ≡ bytes_of (cut_error 0 Number) → IsDone played (done_command played.rule K site w1 w2 st command all) player reply
  not_commanded w1 w2 command all reply asks last says =
      let worn = worn_if played.rule K st site books.items its last in
      let none : Done = unchanged st (bytes_of (cut_error 0 Number)) in
      let after : Done = done_by K site (next_stamp K st site) (plan_of command all) (λ k. cut_reply command all k Number) st in
      let same : done_command played.rule K site w1 w2 st command all ≡ none
      = cond-false (is_ping command) (unchanged st (bytes_of (plan_of command all).reply)) (if is_worn K st site then none else after) asks ∙ cond-true (is_worn K st site) none after worn in
      subst (λ (d : Done). IsDone played d player reply) (sym same) (record { stands = held.stands; says = says })

-- what is no PING
pub no_ping : (kind : Kind) → ((message : Option (Bor (List ℕ))) → kind ≡ kinds.Ping message → ⊥) → is_ping (shown kind) ≡ false
no_ping (kinds.Ping message) other = absurd (other message refl)
no_ping kind other = refl
