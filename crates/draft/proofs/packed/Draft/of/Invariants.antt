use Rattle.std.proofs.Common.{◌≡◌, ◌++◌, take}
use Rattle.std.specs.List.{flat_map}
use Rattle.image.specs.Written.{number_bytes, record_bytes, header_with}
use Rattle.draft.proofs.packed.Draft.of.Given as goal

abbrev pub invariant-loop-minutes : goal.invariant-loop-minutes
invariant-loop-minutes l = l.draft ≡ header_with l.fn.counts ++ flat_map number_bytes (take l.minutes-index l.transfers)

abbrev pub invariant-loop-c : goal.invariant-loop-c
invariant-loop-c l = l.draft ≡ header_with l.fn.counts ++ (flat_map number_bytes l.transfers ++ flat_map record_bytes (take l.c-index l.connections))
