use Rattle.std.proofs.Common.{◌∙◌}
use Rattle.answers.proofs.Walking.{write_start, write_room, write_end, write_onward}
use Rattle.questions.proofs.chain.Origins.write_legs.Goals as goal

pub walk-init : goal.walk-init
walk-init g c = let x = c.requires.chain in write_start (g.T.Means.meaning c.args.self.now.timetable.now) (g.T.Means.lawful c.args.self.now.timetable.now) c.args.self.now.rows.view c.args.self.now.rows.memory.now c.args.self.now.row c.args.self.now.rows.view.target c.args.later c.args.legs c.args.out.now c.args.self.now.stands x.0 x.1 x.2 c.requires.fits

pub take_entry-at-requires-clause-room : goal.take_entry-at-requires-clause-room
take_entry-at-requires-clause-room g c = write_room (g.T.Means.meaning c.args.self.now.timetable.now) (g.T.Means.lawful c.args.self.now.timetable.now) c.args.self.now.rows.view c.args.self.now.rows.memory.now c.args.self.now.row c.args.self.now.rows.view.target c.args.later c.args.legs c.args.out.now c.walk.place c.walk.aboard c.walk.at c.walk.out c.walk.invariant

pub returns-in_default : goal.returns-in_default
returns-in_default g c = write_end (g.T.Means.meaning c.args.self.now.timetable.now) (g.T.Means.lawful c.args.self.now.timetable.now) c.args.self.now.rows.view c.args.self.now.rows.memory.now c.args.self.now.row c.args.self.now.rows.view.target c.args.later c.args.legs c.args.out.now c.walk.place c.walk.aboard c.walk.at c.walk.out c.walk.invariant c.entry-label.result c.entry-label.ensures c.take_entry-at.result c.take_entry-at.new.out c.take_entry-at.ensures c.take_entry-at.auto.out c.in_default.ensures

pub walk-smaller : goal.walk-smaller
walk-smaller g c = (write_onward (g.T.Means.meaning c.args.self.now.timetable.now) (g.T.Means.lawful c.args.self.now.timetable.now) c.args.self.now.rows.view c.args.self.now.rows.memory.now c.args.self.now.row c.args.self.now.rows.view.target c.args.later c.args.legs c.args.out.now c.walk.place c.walk.aboard c.walk.at c.walk.out c.walk.invariant c.entry-label.result c.entry-label.ensures c.take_entry-at.result c.take_entry-at.new.out c.take_entry-at.ensures c.take_entry-at.auto.out c.in-Some.origin c.in-Some.ensures.0 c.in-Some.ensures.1 c.from-stations.result (c.from-stations.ensures ∙ c.stations.ensures)).0

pub walk-preserved : goal.walk-preserved
walk-preserved g c = (write_onward (g.T.Means.meaning c.args.self.now.timetable.now) (g.T.Means.lawful c.args.self.now.timetable.now) c.args.self.now.rows.view c.args.self.now.rows.memory.now c.args.self.now.row c.args.self.now.rows.view.target c.args.later c.args.legs c.args.out.now c.walk.place c.walk.aboard c.walk.at c.walk.out c.walk.invariant c.entry-label.result c.entry-label.ensures c.take_entry-at.result c.take_entry-at.new.out c.take_entry-at.ensures c.take_entry-at.auto.out c.in-Some.origin c.in-Some.ensures.0 c.in-Some.ensures.1 c.from-stations.result (c.from-stations.ensures ∙ c.stations.ensures)).1
