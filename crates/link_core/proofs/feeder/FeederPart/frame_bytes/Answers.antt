use Rattle.std.proofs.Common.{◌≡◌, ◌∙◌, List, [], Some, None, ap, sym, subst}
use Rattle.std.specs.Option.{option_map_or}
use Rattle.machine_model.specs.Feeders.{Feeder, SliceAnswer}
use Rattle.machine_model.specs.Feeding.{built_bytes, session_now}
use Rattle.link_model.specs.Session.{sessions_of}
use Rattle.link_core.specs.Frames.{window_bytes, HasAnsweredBooks}
use Rattle.link_core.specs.Hearing.{SessionWindow, session_among}
use Rattle.link_core.proofs.BuiltFrames.{among_answered, bytes_found}
use Rattle.link_core.proofs.KeptBooks.{if_ok_by}
use Rattle.link_core.proofs.feeder.FeederPart.frame_bytes.Goals as goal

pub frame_bytes-requires : goal.frame_bytes-requires
frame_bytes-requires c =
    let decoded : c.deref-in-Some.result.now ≡ c.args.self.now.decoded = c.deref-in-Some.ensures.value ∙ ap (λ (f : Feeder). f.decoded) c.self.view_is in
    let found = c.in-Some.ensures ∙ ap (λ (l : List SessionWindow). session_among l c.args.number) (c.deref.ensures.value ∙ c.in_ok-sessions.ensures) in
    record {
      answered = subst (λ (l : List SliceAnswer). HasAnsweredBooks l c.in-Some.session.now) (sym decoded)
          (among_answered c.args.window c.requires.most (sessions_of c.args.self.now.heard) c.args.self.now.decoded c.args.number c.in-Some.session.now c.requires.own (sym found));
    }

pub returns-in-Some : goal.returns-in-Some
returns-in-Some c =
    let decoded : c.deref-in-Some.result.now ≡ c.args.self.now.decoded = c.deref-in-Some.ensures.value ∙ ap (λ (f : Feeder). f.decoded) c.self.view_is in
    if_ok_by c.frame_bytes.result (λ bytes. bytes.items) (window_bytes c.deref-in-Some.result.now c.in-Some.session.now c.args.number)
    (option_map_or (built_bytes c.args.self.now.decoded c.args.number) (session_now c.args.window c.args.self.now c.args.number) [])
    c.frame_bytes.ensures.value
    (ap (λ (l : List SliceAnswer). window_bytes l c.in-Some.session.now c.args.number) decoded
    ∙ bytes_found c.args.window (sessions_of c.args.self.now.heard) c.args.self.now.decoded c.args.number c.deref.result.now (Some c.in-Some.session.now) c.in-Some.ensures (c.deref.ensures.value ∙ c.in_ok-sessions.ensures))

pub returns : goal.returns
returns c =
    c.new.ensures.items
    ∙ bytes_found c.args.window (sessions_of c.args.self.now.heard) c.args.self.now.decoded c.args.number c.deref.result.now None c.in-None.ensures (c.deref.ensures.value ∙ c.in_ok-sessions.ensures)
