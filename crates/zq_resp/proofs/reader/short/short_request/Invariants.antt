use Rattle.std.proofs.Common.{◌≡◌, ◌≤◌, ◌+◌, ◌*◌, ◌∷◌, ◌++◌, length, take, All}
use Rattle.std.specs.List.{flat_map}
use Rattle.std.proofs.Common.{◌-◌}
use Rattle.zq_resp.specs.Request.{IsWord}
use Rattle.zq_resp.specs.Spelling.{number_line, word_text}
use Rattle.zq_resp.specs.Suspended.{views}
use Rattle.zq_resp.proofs.reader.short.short_request.Given as goal

abbrev pub invariant-loop-done : goal.invariant-loop-done
invariant-loop-done l =
    record {
      within : l.at ≤ length l.bytes;
      begun : 4 ≤ l.at;
      small : l.at ≤ 4 + 106 * l.done;
      few : l.done ≤ l.count;
      there : l.done ≤ length l.words.items;
      each : All IsWord (take l.done (views l.words));
      spelled : take l.at l.bytes ≡ (42 ∷ number_line l.count) ++ flat_map word_text (take l.done (views l.words));
    }

abbrev pub decreases-loop-done : goal.decreases-loop-done
decreases-loop-done l = l.count - l.done
