-- Tables in which each slot was changed: the slots that they stand for are those of before, each changed.
use Rattle.std.proofs.Common.{◌≡◌, ℕ, ◌<◌, map, sym, ap, ◌∙◌, arith}
use lib.ListN.{length-map}
use Rattle.std.proofs.lemmas.List.{ext_get_or, get_or-map}
use Rattle.rules.specs.Constants.{slot_count}
use Rattle.rules.specs.Group.{SlotState, free_slot}
use Rattle.tables.specs.View.{slots_in, Whole}
use Rattle.tables.specs.Changes.{view_entry, entry_of}
use Rattle.tables.specs.declared.Tables.{Tables}
use Rattle.tables.proofs.Viewing.{slots_length, slot_in}

pub changed_each : (f : SlotState → SlotState) (t u : Tables) → Whole t → Whole u
    → ((s : ℕ) → s < slot_count → view_entry (entry_of u s) ≡ f (view_entry (entry_of t s))) → slots_in u ≡ map f (slots_in t)
changed_each f t u wt wu h =
    let nt = slots_length t wt in
    let nu = slots_length u wu in
    ext_get_or free_slot (slots_in u) (map f (slots_in t)) (nu ∙ sym nt ∙ sym (length-map (slots_in t) f)) (λ s l.
    let b : s < slot_count = omega (arith, nu) in
    slot_in u wu s b free_slot ∙ h s b ∙ ap f (sym (slot_in t wt s b free_slot)) ∙ sym (get_or-map f (slots_in t) s free_slot free_slot (omega (arith, nt))))
