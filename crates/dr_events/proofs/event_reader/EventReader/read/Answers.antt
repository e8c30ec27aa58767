use Rattle.std.proofs.Common.{◌≡◌, ◌∙◌, sym, ap, subst, length, take, drop, Err}
use Rattle.std.proofs.lemmas.List.{length-take-le, take-append-drop}
use Rattle.std.proofs.lemmas.Result.{err_from_is_err_and}
use Rattle.serde_json.specs.Data.{no_members}
use Rattle.dr_schema.specs.declared.schema.Schema.{Schema}
use Rattle.dr_schema.specs.declared.time_format.TimeFormat.{TimeFormat}
use Rattle.dr_events.specs.declared.unparseable.Unparseable.TheVariants.{NotAnObject}
use Rattle.dr_events.specs.EventOf.{event_of}
use Rattle.dr_events.specs.Refusal.{Gives}
use Rattle.dr_events.specs.Scalars.{AreFirst, AreSeen, event_seen}
use Rattle.dr_events.proofs.SeenFields.{event_of-seen, event_of-refused, seen-blank, seen-long, written-back}
use Rattle.dr_events.proofs.FittingEvents.{fits_if_read}
use Rattle.dr_events.proofs.event_reader.EventReader.read.Goals as goal

pub returns-in_err-read_object-clause-event : goal.returns-in_err-read_object-clause-event
returns-in_err-read_object-clause-event c =
    let p = err_from_is_err_and c.from_residual-in_err-read_object.result c.from_residual-in_err-read_object.ensures.1 in
    rw (p.1, p.2) (λ h. let both = c.in_err-read_object.ensures.err h in event_of-refused c.args.self.now c.args.seat c.args.bytes.now NotAnObject both.1 ∙ ap Err (sym both.0))

pub returns-clause-event : goal.returns-clause-event
returns-clause-event c =
    let r = c.self.inside in
    let seat = c.args.seat in
    let bytes = c.args.bytes.now in
    let firsts = take r.columns r.names in
    let behind : AreFirst firsts r.names = (drop r.columns r.names, sym (take-append-drop r.columns r.names)) in
    let done = c.in_ok-read_object.ensures.ok in
    let items = c.in_ok-found.found.items in
    let filled = c.read_object.new.found in
    let found = c.as_slice.result.now in
    let long : length items ≡ length firsts = c.in_ok-found.ensures.1 ∙ sym (length-take-le r.columns r.names c.self.invariant.1) in
    let blank = subst (λ xs. AreSeen firsts xs no_members) (sym c.as_mut_slice.ensures.value) (seen-blank firsts items c.in_ok-found.ensures.0 long) in
    let read_so = done.2 firsts behind blank in
    let same_length : length filled ≡ length items = seen-long firsts filled done.0 read_so ∙ sym long in
    let all : c.in_ok-found.found.len ≡ length items = sym c.as_mut_slice.ensures.len ∙ ap length c.as_mut_slice.ensures.value in
    let seen = subst (λ xs. AreSeen firsts xs done.0) (sym (c.as_slice.ensures.value ∙ written-back filled items c.in_ok-found.found.len same_length all)) read_so in
    let same = event_of-seen r.schema seat bytes firsts r.places found done.0 done.1 c.self.invariant.0 seen in
    let given : Gives (λ e. e) c.event_of_fields.result (event_of r.schema seat bytes) =
    rw same (subst (λ (f : TimeFormat). Gives (λ e. e) c.event_of_fields.result (event_seen f seat r.places found)) c.time_format.ensures c.event_of_fields.ensures.event) in
    subst (λ (s : Schema). Gives (λ e. e) c.event_of_fields.result (event_of s seat bytes)) c.self.view_is given

pub returns-clause-fits : goal.returns-clause-fits
returns-clause-fits c = fits_if_read c.args.self.now c.args.seat c.args.bytes.now c.event_of_fields.result (returns-clause-event c)
