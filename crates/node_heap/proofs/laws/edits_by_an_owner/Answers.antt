use Rattle.node_heap.proofs.OwnerLemmas.{EditsBy-hold, EditsBy-place, EditsBy-Unchanged, KeepsHeld-EditsBy, KeepsBelow-EditsBy}
use Rattle.node_heap.proofs.laws.edits_by_an_owner.Goals as goal

pub returns-clause-hold : goal.returns-clause-hold
returns-clause-hold g c old mid new root root' spent gained cells nodes graph held sole builds change = EditsBy-hold graph held sole builds change

pub returns-clause-place : goal.returns-clause-place
returns-clause-place g c old mid new parent index root' spent gained cells nodes inside sole heads links others first change = EditsBy-place old mid parent index root' inside sole heads links others first change

pub returns-clause-held : goal.returns-clause-held
returns-clause-held g c old new root root' spent gained cells nodes edit = KeepsHeld-EditsBy edit

pub returns-clause-apart : goal.returns-clause-apart
returns-clause-apart g c old new parent index root' l spent gained cells nodes edit some off = KeepsBelow-EditsBy edit l some off

pub returns-clause-room : goal.returns-clause-room
returns-clause-room g c owner old mid new root spent gained cells nodes same edit = EditsBy-Unchanged old mid same owner edit
